-- A run of the program, turn by turn, over the bytes that its reads gave and the bytes that it handed to be written. That the input gave these and the output took these is proved of every input and
-- output that say their bytes (`Tied`, of `blocks`). Standard input and output don't say: of them it is assumed, and not proved.
use Rattle.std.specs.Prelude.{ℕ, ◌-◌, ◌≤◌, ◌<◌, ◌≡◌, Bool, true, false, cond, ◌⊎◌, List, [], ◌++◌, leb, length, take, drop, Option, IfSome}
use Rattle.std.specs.Io.KnownBytes.{Appends}
use Rattle.blocks.specs.Fill.{is_over, is_failed, Filled, Gathers}
use Rattle.blocks.specs.declared.Read.{Read}
use Rattle.blocks.specs.declared.Source.TheVariants.{Open}
use Rattle.stream_rules.specs.Stream.{is_marked, Reports, Prints}
use Rattle.report_rules.specs.declared.State.{State}

-- the bytes at hand stand in front of the block, and those that wait to be written in front of the output
abbrev pub at_hand : State → List ℕ → List ℕ
at_hand s block = take s.have block

abbrev pub waiting : State → List ℕ → List ℕ
waiting s out = take s.put out

-- the state before the first turn, with so many bytes at hand behind the mark
abbrev pub begun : ℕ → State
begun have = record { have = have; source = Open; records = 0; put = 0; going = true }

-- nothing has to be read: all that is left is at hand, or as much as the longest record takes
abbrev pub Enough : State → Type 0
Enough s = (is_over s.source ≡ true) ⊎ (32772 ≤ s.have)

-- A read, unless nothing has to be read: what it gave stands behind the bytes at hand, and where it gave nothing these are all that is left.
abbrev pub behind_read : State → Read → State
behind_read s r = record { have = r.have; source = r.source; records = s.records; put = s.put; going = s.going }

pub data Refilled (s : State) (block : List ℕ) : State → List ℕ → Type 0 where
  enough : Enough s → Refilled s block s block
  reads : {r : Read} {block' : List ℕ} → s.have < 32772 → Filled block s.have r block' → Refilled s block (behind_read s r) block'

abbrev pub read_behind : State → State → List ℕ → List ℕ
read_behind s r block' = drop s.have (at_hand r block')

-- A turn: lines are put behind those that wait. Whatever follows the bytes at hand, nothing where they are all that is left: where reading goes on, and t is printed of the rest, these
-- lines and t are printed of all; where it ends, these lines are.
abbrev pub added : State → State → List ℕ → List ℕ
added s r out' = drop s.put (waiting r out')

pub record Turned (s : State) (block out : List ℕ) (r : State) (block' out' : List ℕ) : Type 0 where
  pub kept : take s.put (waiting r out') ≡ waiting s out
  pub same : r.source ≡ s.source
  pub uses : r.going ≡ true → Enough s → r.have < s.have
  pub goes : r.going ≡ true → (failed : Bool) (ys t : List ℕ) → Reports failed r.records (at_hand r block' ++ ys) t → Reports failed s.records (at_hand s block ++ ys) (added s r out' ++ t)
  pub ends : r.going ≡ false → (ys : List ℕ) → (is_over s.source ≡ true → ys ≡ []) → Reports (is_failed s.source) s.records (at_hand s block ++ ys) (added s r out')

-- A write: all that waits, at the end or where there is no room for a line more; else nothing.
abbrev pub due_of : State → ℕ
due_of s = cond s.going (cond (leb s.put 65280) 0 s.put) s.put

abbrev pub relieved_of : State → State
relieved_of s = record { have = s.have; source = s.source; records = s.records; put = s.put - due_of s; going = s.going }

-- The first reads brought the mark, and what stands behind it moved to the front. Then turn after turn, each a read, lines that are put and a write: all bytes that were read so far, and all that
-- were written.
pub data Ran : List ℕ → List ℕ → State → List ℕ → List ℕ → Type 0 where
  starts : {read block block₁ out : List ℕ} {r : Read}
      → Gathers read r block
      → is_marked (take r.have block) ≡ true
      → take (r.have - 5) block₁ ≡ take (r.have - 5) (drop 5 block)
      → Ran read [] (begun (r.have - 5)) block₁ out
  turns : {read written block block₁ block₂ out out₁ : List ℕ} {s s₁ s₂ : State}
      → Ran read written s block out
      → s.going ≡ true
      → Refilled s block s₁ block₁
      → Turned s₁ block₁ out s₂ block₂ out₁
      → Ran (read ++ read_behind s s₁ block₁) (written ++ take (due_of s₂) out₁) (relieved_of s₂) block₂ out₁

-- the program came here so; it ends behind the last lines, or behind 2^46 bytes
pub record Came (s : State) (block out : List ℕ) : Type 0 where
  pub read : List ℕ
  pub written : List ℕ
  pub ran : Ran read written s block out
  pub last : s.going ≡ true → 70368744177664 ≤ length read

-- What a whole run does to an output that says its bytes, by an input that says them: of the stream that the input has, what is printed is written behind what the output held.
abbrev pub Printed : Option (List ℕ) → Option (List ℕ) → Option (List ℕ) → Type 0
Printed before held holds = IfSome before (λ stream. (printed : List ℕ) × Prints stream printed × Appends held holds printed)
