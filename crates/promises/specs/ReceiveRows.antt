-- Document 02, item 14, the refusal table of the receiving check: "Refusals: those of item 8 for the sent record, with no 6 as nothing is written; then 23 the received
-- record has under 32 bytes, 24 it ends before its last quality."
use Rattle.std.specs.Prelude.{ℕ, Bool, List, [], ◌∷◌, ◌++◌, ltb, length}
use Rattle.sam.specs.Record.{is_short, tags_start}
use Rattle.oplist.specs.Ops.{record_ops}
use Rattle.promises.specs.Table.{Row, ◌when◌}
use Rattle.promises.specs.Rows.{short, too_long, beyond}
use Rattle.promises.specs.RecordRows.{left_ops, moved_place, ends_early, query_differs, count_over, over_moved}

-- the sent record's
abbrev pub sent_rows : List ℕ → ℕ → Bool → List Row
sent_rows b amount start =
    short b
    ∷ ends_early b
    ∷ too_long (record_ops b)
    ∷ beyond (record_ops b) amount start
    ∷ query_differs b
    ∷ count_over (left_ops b amount start)
    ∷ over_moved (moved_place b amount start) (left_ops b amount start)
    ∷ []

-- 23: "the received record has under 32 bytes"
abbrev pub received_short : List ℕ → Row
received_short g = 23 when is_short g

-- 24: "it ends before its last quality"
abbrev pub received_cut : List ℕ → Row
received_cut g = 24 when ltb (length g) (tags_start g)

-- `check_clipped_start`, `check_clipped_end`
abbrev pub check_rows : List ℕ → ℕ → Bool → List ℕ → List Row
check_rows b amount start g = sent_rows b amount start ++ (received_short g ∷ received_cut g ∷ [])
