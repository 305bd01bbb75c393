-- What a block of input promises, wherever a stream is cut into blocks. The specification's rule is `Header`.
use Rattle.std.specs.Prelude.{ℕ, ◌+◌, ◌-◌, ◌≤◌, ◌<◌, ◌≡◌, Bool, true, false, cond, List, ◌++◌, ltb, eqb, length, drop}
use Rattle.bam_header.specs.Header.{Head, past_bytes, references, counted, texted}
use Rattle.bam_header.specs.declared.HeadPart.{HeadPart}
use Rattle.bam_header.specs.declared.HeadPart.TheVariants.{TextSize, Count, Names}
use Rattle.bam_header.specs.declared.HeadPlace.{HeadPlace}
use Rattle.bam_header.specs.declared.Step.{Step}

-- what the rest of a stream comes to from a part on
abbrev pub from_part : HeadPart → List ℕ → Head
from_part TextSize s = texted s
from_part Count s = counted s
from_part (Names left) s = references left s

-- and from a place on
abbrev pub from_place : HeadPlace → List ℕ → Head
from_place p s = past_bytes p.skip (from_part p.part) s

-- whether a part is the records themselves
abbrev pub is_records : HeadPart → Bool
is_records TextSize = false
is_records Count = false
is_records (Names left) = eqb left 0

abbrev pub is_begun : HeadPlace → Bool
is_begun p = cond (ltb 0 p.skip) false (is_records p.part)

-- whether n bytes are enough to go on
abbrev pub is_ready : HeadPlace → ℕ → Bool
is_ready p n = cond (ltb 0 p.skip) (ltb 0 n) (cond (is_records p.part) false (ltb 3 n))

-- the place behind a number: a text is skipped, and a name with the length behind it
abbrev pub behind_number : HeadPart → ℕ → HeadPlace
behind_number TextSize n = record { skip = n; part = Count }
behind_number Count n = record { skip = 0; part = Names n }
behind_number (Names left) n = record { skip = n + 4; part = Names (left - 1) }

-- Of bytes s at hand so many are used: whatever follows s, the rest comes to the same from the place reached.
pub record HeadGone (s : List ℕ) (p : HeadPlace) (r : Step) : Type 0 where
  pub within : r.used ≤ length s
  pub same : (ys : List ℕ) → from_place p (s ++ ys) ≡ from_place r.place (drop r.used s ++ ys)

-- As far as the bytes go: behind them the records begin, whatever follows; or under four bytes are left, and where nothing follows the head is cut short.
pub record HeadWent (s : List ℕ) (p : HeadPlace) (r : Step) : Type 0 where
  pub gone : HeadGone s p r
  pub begins : is_begun r.place ≡ true → (ys : List ℕ) → from_place p (s ++ ys) ≡ Head.Records (drop r.used s ++ ys)
  pub short : is_begun r.place ≡ false → length s < r.used + 4
  pub ends : is_begun r.place ≡ false → from_place p s ≡ Head.CutShort
