-- Document 01, module 2: `get_cigar_ops`, a record's ops in the first places of lent memory.
use Rattle.std.specs.Prelude.{ℕ, cond, List, length, ltb, Err, Ok}
use Rattle.answers.specs.Answer.{Answer}
use Rattle.lists.specs.Lists.{splice}
use Rattle.sam.specs.Record.{is_short}
use Rattle.oplist.specs.Ops.{record_ops}
use Rattle.answers.specs.Settled.{Outcome, keeps}
use Rattle.answers.specs.declared.Refusal.TheVariants.{ShortRecord, NoRoom}

-- ops into lent memory d: 6
abbrev pub copied_ops : List ℕ → List ℕ → Outcome (Answer ℕ)
copied_ops xs d =
    cond (ltb (length d) (length xs)) (keeps (Err NoRoom) d)
    (record { answer = Ok (length xs); left = splice d 0 xs })

-- `get_cigar_ops`: 1, 6
unfoldable pub get_ops : List ℕ → List ℕ → Outcome (Answer ℕ)
get_ops b d = cond (is_short b) (keeps (Err ShortRecord) d) (copied_ops (record_ops b) d)
