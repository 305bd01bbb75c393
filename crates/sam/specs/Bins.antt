-- SAM specification 5.1.1 and 5.3, and CSI (hts-specs), which has these bins over min_shift and depth: level 0 has one bin, each level eight times as many as the one above, and
-- level `depth` is the finest, with bins of 2^min_shift bases. The i-th bin of a level holds the places from i * size to before (i + 1) * size, and its number is the level's
-- first number and i. The specification's own bins (BAI) are those of min_shift 14 and depth 5.
use Rattle.std.specs.Prelude.{ℕ, zero, suc, ◌+◌, ◌-◌, ◌*◌, ◌/◌, ◌≤◌, ◌<◌, ◌^◌, ◌≡◌, cond, eqb}
use mathlib.Core.List.{List, [], ◌∷◌, Memᴰ}
use Rattle.lists.specs.Lists.{Each}

-- a level's first number: as many as there are bins on the levels above
unfoldable pub first_of : ℕ → ℕ
first_of zero = 0
first_of (suc l) = first_of l + 8 ^ l

-- the size of a level's bins, of min_shift s and depth d
abbrev pub size_of : ℕ → ℕ → ℕ → ℕ
size_of s d l = 2 ^ (s + 3 * (d - l))

-- the i-th bin of size m holds the region from beg to before end
pub record Holds (m i beg end : ℕ) : Type 0 where
  pub from : i * m ≤ beg
  pub to : end ≤ i * m + m

-- the smallest bin that holds the region
pub record SmallestBin (s d beg end bin : ℕ) : Type 0 where
  pub level : ℕ
  pub place : ℕ
  pub known : level ≤ d
  pub number : bin ≡ first_of level + place
  pub holds : Holds (size_of s d level) place beg end
  pub least : (l i : ℕ) → l ≤ d → Holds (size_of s d l) i beg end → size_of s d level ≤ size_of s d l

-- the i-th bin of size m and the region have a place in common
pub record Meets (m i beg end : ℕ) : Type 0 where
  pub starts : i * m < end
  pub ends : beg < i * m + m

-- a bin that may overlap the region: its interval meets it
pub record MeetingBin (s d beg end bin : ℕ) : Type 0 where
  pub level : ℕ
  pub place : ℕ
  pub known : level ≤ d
  pub number : bin ≡ first_of level + place
  pub meets : Meets (size_of s d level) place beg end

-- each number is below all behind it, so that none stands twice
unfoldable pub Ascending : List ℕ → Type 0
Ascending [] = Unit {0}
Ascending (x ∷ xs) = Each (λ (y : ℕ). x < y) xs × Ascending xs

-- all bins that may overlap the region, and no other, each once and ascending: a level's numbers are below the next level's, so that the coarsest comes first
pub record AllBins (s d beg end : ℕ) (bins : List ℕ) : Type 0 where
  pub meet : Each (MeetingBin s d beg end) bins
  pub all : (bin : ℕ) → MeetingBin s d beg end bin → Memᴰ bin bins
  pub once : Ascending bins

-- the rule by which a bin is found, from the finest level on: up one level, with one level fewer left, while the region's first and last place lie in different bins
unfoldable pub bin_up : ℕ → ℕ → ℕ → ℕ → ℕ
bin_up zero shift beg last = 0
bin_up (suc left) shift beg last =
    cond (eqb (beg / 2 ^ shift) (last / 2 ^ shift)) (first_of (suc left) + beg / 2 ^ shift) (bin_up left (shift + 3) beg last)
