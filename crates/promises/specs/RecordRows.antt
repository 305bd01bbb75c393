-- Document 02, item 8, the refusal table of clipped records: "2 also where the record ends before its last quality; 15 query length differs from nonzero l_seq, 16 the op
-- count would pass 65,535, in that order after 1, 2, 8 and before 4 and 6", and item 12's 19 directly after 8.
use Rattle.std.specs.Prelude.{ℕ, Bool, not, ◌&&◌, ◌||◌, List, [], ◌∷◌, ltb, eqb, ℤ, pos, ◌+ℤ◌, ◌-ℤ◌, length, Err, Ok}
use Rattle.answers.specs.Answer.{Answer}
use Rattle.std.specs.Int.Signed.{lt_z}
use Rattle.lists.specs.Lists.{sum_of}
use Rattle.sam.specs.Op.{ref_len, query_len}
use Rattle.sam.specs.Record.{seq_len_of, pos_of, tags_start}
use Rattle.oplist.specs.Ops.{record_ops}
use Rattle.bin_rules.specs.Bin.{span_of}
use Rattle.clip_rules.specs.Answer.{clipped_ops}
use Rattle.record_rules.specs.Written.{Change, new_record}
use Rattle.record_rules.specs.Clipping.{new_len, first_kept, start_count, bin_at}
use Rattle.promises.specs.Table.{Row, ◌when◌}
use Rattle.promises.specs.Rows.{short, outside, any_outside, too_long, beyond, no_room}

-- ---- what is written, where nothing is refused

abbrev pub left_ops : List ℕ → ℕ → Bool → List ℕ
left_ops b amount start = clipped_ops (record_ops b) amount start

abbrev pub moved_place : List ℕ → ℕ → Bool → ℤ
moved_place b amount start = pos_of b +ℤ pos (start_count (record_ops b) amount start)

abbrev pub bin_in : Answer ℕ → ℕ
bin_in (Ok n) = n
bin_in (Err r) = 0

abbrev pub change : List ℕ → ℕ → Bool → Change
change b amount start = record {
  ops = left_ops b amount start;
  place = moved_place b amount start;
  bin = bin_in (bin_at (moved_place b amount start) (sum_of ref_len (left_ops b amount start)));
  len = new_len b (left_ops b amount start);
  from = first_kept b start (new_len b (left_ops b amount start));
  count = start_count (record_ops b) amount start;
}

abbrev pub clipped_record : List ℕ → ℕ → Bool → List ℕ
clipped_record b amount start = new_record b (change b amount start)

-- ---- the rows

-- 2: "also where the record ends before its last quality"
abbrev pub ends_early : List ℕ → Row
ends_early b = 2 when ltb (length b) (tags_start b)

-- 15: "query length differs from nonzero l_seq"
abbrev pub query_differs : List ℕ → Row
query_differs b = 15 when (not (eqb (seq_len_of b) 0) && not (eqb (sum_of query_len (record_ops b)) (seq_len_of b)))

-- 16: "the op count would pass 65,535"
abbrev pub count_over : List ℕ → Row
count_over ys = 16 when ltb 65535 (length ys)

-- 4: the position that is moved, and unless that is below 0 the end of the bin's region, and the place before it
abbrev pub end_of : ℤ → List ℕ → ℤ
end_of z ys = z +ℤ span_of (pos (sum_of ref_len ys))

abbrev pub over_moved : ℤ → List ℕ → Row
over_moved z ys = 4 when (outside z || (not (lt_z z (pos 0)) && any_outside (end_of z ys ∷ (end_of z ys -ℤ pos 1) ∷ [])))

-- `clip_record_start`, `clip_record_end`
abbrev pub clipped_record_rows : List ℕ → ℕ → Bool → List ℕ → List Row
clipped_record_rows b amount start d =
    short b
    ∷ ends_early b
    ∷ too_long (record_ops b)
    ∷ beyond (record_ops b) amount start
    ∷ query_differs b
    ∷ count_over (left_ops b amount start)
    ∷ over_moved (moved_place b amount start) (left_ops b amount start)
    ∷ no_room d (length (clipped_record b amount start))
    ∷ []
