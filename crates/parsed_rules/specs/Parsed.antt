-- Document 01, module 5: "Order: strict text 5, 3, 6".
use Rattle.std.specs.Prelude.{ℕ, cond, not, List, pos, length, ltb, Some, None, Option, Err, Ok}
use Rattle.answers.specs.Answer.{Answer}
use Rattle.lists.specs.Lists.{sum_of, splice}
use Rattle.signed.specs.Whole.{clamp32}
use Rattle.sam.specs.Op.{ref_len}
use Rattle.oplist.specs.Ops.{most_ops}
use Rattle.answers.specs.Settled.{Outcome, keeps}
use Rattle.answers.specs.declared.Refusal.TheVariants.{NotACigar, TooManyOps, NoRoom}
use Rattle.text_rules.specs.Text.{text_ops}
use Rattle.text_rules.specs.Strict.{strict}
use Rattle.parsed_rules.specs.declared.Measured.{Measured}

-- the measuring pass: the ops of a valid mapped CIGAR, and its reference length, saturated
unfoldable pub measured_text : List ℕ → Option Measured
measured_text s = cond (strict s) (Some (record { ops = length (text_ops s); refs = clamp32 (pos (sum_of ref_len (text_ops s))) })) None

-- `parse_cigar_string_ops` into lent memory d: 5, 3, 6
unfoldable pub parsed : List ℕ → List ℕ → Outcome (Answer ℕ)
parsed s d =
    cond (not (strict s)) (keeps (Err NotACigar) d)
    (cond (ltb most_ops (length (text_ops s))) (keeps (Err TooManyOps) d)
    (cond (ltb (length d) (length (text_ops s))) (keeps (Err NoRoom) d)
    (record { answer = Ok (length (text_ops s)); left = splice d 0 (text_ops s) })))
