-- Document 02, item 11, "CSI bins for large genomes": the bin of a region, over min_shift and depth, and all bins that may overlap it.
use Rattle.std.specs.Prelude.{ℕ, zero, suc, ◌+◌, ◌-◌, ◌*◌, ◌/◌, ◌^◌, Bool, cond, not, ◌&&◌, List, [], ◌∷◌, ◌++◌, ltb, leb, length, ℤ, pos, Err, Ok}
use Rattle.answers.specs.Answer.{Answer}
use Rattle.std.specs.Int.Signed.{lt_z, le_z}
use Rattle.lists.specs.Lists.{splice}
use Rattle.signed.specs.Whole.{natural}
use Rattle.answers.specs.Settled.{Outcome, keeps}
use Rattle.answers.specs.declared.Refusal.TheVariants.{NoRoom, BadLevels, BadRegion}
use Rattle.sam.specs.Bins.{first_of, bin_up}
use Rattle.csi_rules.specs.declared.Region.{Region}

-- "min_shift 10 to 20 and depth 1 to 8"
abbrev pub served : ℕ → ℕ → Bool
served s d = leb 10 s && (leb s 20 && (leb 1 d && leb d 8))

-- "0 ≤ beg < end ≤ 2^(min_shift + 3 × depth)"
abbrev pub inside : ℕ → ℕ → ℤ → ℤ → Bool
inside s d beg end = le_z (pos 0) beg && (lt_z beg end && le_z end (pos (2 ^ (s + 3 * d))))

-- n numbers from a on
unfoldable pub numbers_from : ℕ → ℕ → List ℕ
numbers_from a zero = []
numbers_from a (suc n) = a ∷ numbers_from (suc a) n

-- the bins of one level, "ascending", from that of the region's first place to that of its last
abbrev pub level_bins : ℕ → ℕ → ℕ → ℕ → List ℕ
level_bins l shift beg last = numbers_from (first_of l + beg / 2 ^ shift) (last / 2 ^ shift - beg / 2 ^ shift + 1)

-- "level by level from the coarsest"
unfoldable pub bins_up : ℕ → ℕ → ℕ → ℕ → List ℕ
bins_up zero shift beg last = 0 ∷ []
bins_up (suc left) shift beg last = bins_up left (shift + 3) beg last ++ level_bins (suc left) shift beg last

-- the last place of a region that ends before end
abbrev pub last_place : ℤ → ℕ
last_place end = natural end - 1

-- the region's first and last place: "17 depth or shift out of range, 18 unless 0 ≤ beg < end ≤ 2^(min_shift + 3 × depth)"
unfoldable pub region_of : ℤ → ℤ → ℕ → ℕ → Answer Region
region_of beg end s d =
    cond (not (served s d)) (Err BadLevels)
    (cond (not (inside s d beg end)) (Err BadRegion)
    (Ok (record { first = natural beg; last = last_place end })))

-- `csi_reg2bin`: 17, 18; "start at the finest level, and go up one level, with one level fewer left, while the ends differ"
abbrev pub bin_in : ℕ → ℕ → Answer Region → Answer ℕ
bin_in s d (Ok got) = Ok (bin_up d s got.first got.last)
bin_in s d (Err r) = Err r

unfoldable pub csi_bin : ℤ → ℤ → ℕ → ℕ → Answer ℕ
csi_bin beg end s d = bin_in s d (region_of beg end s d)

-- `csi_reg2bins`: 17, 18, "then 6"; "all bins that may overlap a region"
abbrev pub filled : List ℕ → List ℕ → Outcome (Answer ℕ)
filled bins out =
    cond (ltb (length out) (length bins)) (keeps (Err NoRoom) out)
    (record { answer = Ok (length bins); left = splice out 0 bins })

abbrev pub bins_in : ℕ → ℕ → List ℕ → Answer Region → Outcome (Answer ℕ)
bins_in s d out (Ok got) = filled (bins_up d s got.first got.last) out
bins_in s d out (Err r) = keeps (Err r) out

unfoldable pub csi_bins : ℤ → ℤ → ℕ → ℕ → List ℕ → Outcome (Answer ℕ)
csi_bins beg end s d out = bins_in s d out (region_of beg end s d)

-- what both answer where neither 17 nor 18 is due
abbrev pub region_bin : ℤ → ℤ → ℕ → ℕ → ℕ
region_bin beg end s d = bin_up d s (natural beg) (last_place end)

abbrev pub region_bins : ℤ → ℤ → ℕ → ℕ → List ℕ
region_bins beg end s d = bins_up d s (natural beg) (last_place end)
