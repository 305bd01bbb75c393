-- Document 02, item 3: "The family builder wants three answers: a position, unmapped, or no ops, which an overrun area also gives. [..] Demand 2 then equals Rust after the three
-- answers are folded back to its numbers".
use Rattle.std.specs.Prelude.{ℕ, ◌≡◌, Bool, true, false, cond, ◌||◌, List, ltb, eqb, ℤ, pos, ◌+ℤ◌, ◌-ℤ◌, length, Err, None, Ok, Option, Some}
use Rattle.answers.specs.Answer.{Answer}
use Rattle.sam.specs.Columns.{columns, refs}
use Rattle.sam.specs.Record.{is_short, pos_of, flags_of, is_unmapped, is_reverse, op_count_of, ops_end}
use Rattle.oplist.specs.Ops.{record_ops}
use Rattle.clip_run_rules.specs.Clips.{leading_clips, clips_after_reference}
use Rattle.answers.specs.declared.Pos1.{Pos1}
use Rattle.answers.specs.declared.Refusal.TheVariants.{ShortRecord, Overflow}
use Rattle.ends_rules.specs.Ends.{plus_one, five_prime}
use Rattle.ends_rules.specs.declared.Unclipped.{Unclipped}
use Rattle.promises.specs.Table.{refuses}
use Rattle.promises.specs.Rows.{unclipped_rows}

-- ---- when each is given

-- "no ops, which an overrun area also gives"
abbrev pub lacks_ops : List ℕ → Bool
lacks_ops b = eqb (op_count_of b) 0 || ltb (length b) (ops_end b)

-- "from `pos` + 1, forward less the leading S and H, reverse plus reference length plus clips after the last reference op, less 1"
abbrev pub five_of : List ℕ → ℤ
five_of b =
    let at = pos_of b +ℤ pos 1 in
    let xs = record_ops b in
    cond (is_reverse (flags_of b)) (at +ℤ pos (refs (columns xs)) +ℤ pos (clips_after_reference xs) -ℤ pos 1) (at -ℤ pos (leading_clips xs))

-- one thing holds exactly when another does
pub record Exactly (given when : Type 0) : Type 0 where
  pub only : given → when
  pub always : when → given

-- unmapped is asked first, then the ops; a position is that sum and no other, and is refused, by 1 or 4, as its rows say
pub record ThreeAnswers (b : List ℕ) (answer : Answer Unclipped) : Type 0 where
  pub unmapped : Exactly (answer ≡ (Ok Unclipped.Unmapped)) ((is_short b ≡ false) × (is_unmapped (flags_of b) ≡ true))
  pub no_ops : Exactly (answer ≡ (Ok Unclipped.NoOps)) ((is_short b ≡ false) × (is_unmapped (flags_of b) ≡ false) × (lacks_ops b ≡ true))
  pub position : (p : Pos1)
      → Exactly (answer ≡ (Ok (Unclipped.At p))) ((is_unmapped (flags_of b) ≡ false) × (lacks_ops b ≡ false) × (refuses (unclipped_rows b) ≡ false) × (five_of b ≡ p.0))

-- ---- "folded back to its numbers"

-- document 01: "unmapped 0; no ops or overrun 2,147,483,647"
abbrev pub as_rust : Answer Unclipped → Answer ℤ
as_rust (Ok (Unclipped.At p)) = Ok p.0
as_rust (Ok Unclipped.Unmapped) = Ok (pos 0)
as_rust (Ok Unclipped.NoOps) = Ok (pos 2147483647)
as_rust (Err r) = Err r

abbrev pub sum_as_int : Option ℤ → Answer ℤ
sum_as_int (Some z) = Ok z
sum_as_int None = Err Overflow

-- "else from `pos` + 1"
abbrev pub from_next : Option ℤ → Bool → List ℕ → Option ℤ
from_next (Some at) reverse xs = five_prime reverse at xs
from_next None reverse xs = None

-- the Rust's number, as document 01 has it: 1, 4
unfoldable pub rust_number : List ℕ → Answer ℤ
rust_number b =
    cond (is_short b) (Err ShortRecord)
    (cond (is_unmapped (flags_of b)) (Ok (pos 0))
    (cond (lacks_ops b) (Ok (pos 2147483647))
    (sum_as_int (from_next (plus_one (record { 0 = pos_of b })) (is_reverse (flags_of b)) (record_ops b)))))
