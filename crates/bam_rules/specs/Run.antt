-- A run of the program, turn by turn, over the bytes that its reads gave and the bytes that it handed to be written. That the input gave these and the output took these is proved of every input and
-- output that say their bytes (`Tied`, of `blocks`). Standard input and output don't say: of them it is assumed, and not proved.
use Rattle.std.specs.Prelude.{ℕ, ◌+◌, ◌-◌, ◌≤◌, ◌<◌, ◌≡◌, true, false, cond, List, [], ◌++◌, length, take, drop}
use Rattle.blocks.specs.Fill.{is_over, Filled, Gathers, First}
use Rattle.blocks.specs.declared.Read.{Read}
use Rattle.blocks.specs.declared.Source.TheVariants.{Open}
use Rattle.bam_header.specs.Header.{is_bam, texted}
use Rattle.bam_header.specs.Inner.{from_place, is_begun, HeadWent}
use Rattle.bam_header.specs.declared.HeadPlace.{HeadPlace}
use Rattle.bam_header.specs.Converted.{cgr_mark}
use Rattle.bam_rules.specs.declared.BamState.{BamState}

-- the bytes at hand that are not used
abbrev pub left : BamState → List ℕ → List ℕ
left s block = drop s.used (take s.have block)

-- A turn: what is left moves to the front, a read into the room behind it, and from the place before them the bytes at hand go as far as they go.
pub record BamTurn (s : BamState) (block : List ℕ) (r : BamState) (block' : List ℕ) : Type 0 where
  pub moved : List ℕ
  pub front : take (s.have - s.used) moved ≡ take (s.have - s.used) (drop s.used block)
  pub room : s.have < s.used + 65536
  pub filled : Filled moved (s.have - s.used) (record { have = r.have; source = r.source }) block'
  pub went : HeadWent (take r.have block') s.place (record { used = r.used; place = r.place })
  pub same : r.marked ≡ s.marked

-- those that its read gave, behind the bytes that were left
abbrev pub read_in : BamState → BamState → List ℕ → List ℕ
read_in s r block' = drop (s.have - s.used) (take r.have block')

-- What is due first where the records begin is the mark, or what is left behind it. The bytes that are used behind its write, and the state.
abbrev pub used_behind : BamState → ℕ
used_behind s = cond s.marked s.have s.used

abbrev pub behind_of : BamState → BamState
behind_of s = record { place = s.place; have = s.have; used = used_behind s; source = s.source; marked = true }

-- All that is due after a turn: nothing in the head; the mark, once, and what is left. And the state behind the writes.
abbrev pub due_bytes : BamState → List ℕ → List ℕ
due_bytes s block = cond (is_begun s.place) (cond s.marked [] cgr_mark ++ left s block) []

abbrev pub behind_all : BamState → BamState
behind_all s = cond (is_begun s.place) (record { place = s.place; have = s.have; used = s.have; source = s.source; marked = true }) s

-- the state before the first turn: the magic is used
abbrev pub head_start : HeadPlace → ℕ → BamState
head_start p have = record { place = p; have = have; used = 4; source = Open; marked = false }

-- The first reads brought the magic. Then turn after turn, each a read and writes: all bytes that were read so far, and all that were written.
pub data BamRan : List ℕ → List ℕ → BamState → List ℕ → Type 0 where
  starts : {read block : List ℕ} {r : Read} {p : HeadPlace}
      → Gathers read r block
      → is_bam (take r.have block) ≡ true
      → ((ys : List ℕ) → from_place p ys ≡ texted ys)
      → BamRan read [] (head_start p r.have) block
  turns : {read written block block' : List ℕ} {s r : BamState}
      → BamRan read written s block
      → is_over s.source ≡ false
      → BamTurn s block r block'
      → BamRan (read ++ read_in s r block') (written ++ due_bytes r block') (behind_all r) block'

-- the program came here so; it ends where a read gave none, or behind 2^47 bytes
pub record BamCame (s : BamState) (block : List ℕ) : Type 0 where
  pub read : List ℕ
  pub written : List ℕ
  pub ran : BamRan read written s block
  pub last : is_over s.source ≡ false → 140737488355328 ≤ length read

-- What the program has written at its end of a stream: its turns', or nothing where the magic is another. Where a read gave none the stream is what was read.
pub data Wrote : List ℕ → List ℕ → Type 0 where
  ended : {stream written block : List ℕ} {s : BamState} → BamRan stream written s block → is_over s.source ≡ true → Wrote stream written
  refused : {block : List ℕ} {r : Read} (ys : List ℕ) (f : First 4 r block) → is_bam (take r.have block) ≡ false → (is_over r.source ≡ true → ys ≡ []) → Wrote (f.read ++ ys) []
