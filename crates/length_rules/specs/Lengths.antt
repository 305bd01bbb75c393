-- Document 01, module 3: "Sums over reference and query codes. `saturating_reference_length` stops at 2^31-1." Each with its refusals in order.
use Rattle.std.specs.Prelude.{ℕ, cond, List, [], ◌∷◌, length, ltb, pos, Err, Ok, ℤ}
use Rattle.answers.specs.Answer.{Answer}
use Rattle.length_rules.specs.declared.RecordLengths.{RecordLengths}
use Rattle.lists.specs.Lists.{sum_of}
use Rattle.signed.specs.Whole.{clamp32}
use Rattle.sam.specs.Op.{ref_len, query_len}
use Rattle.sam.specs.Record.{ops_end, is_short}
use Rattle.answers.specs.Answers.{Told, answered, refused}
use Rattle.answers.specs.declared.Refusal.TheVariants.{ShortRecord, AreaOverrun, TooManyOps, Overflow}
use Rattle.oplist.specs.Ops.{most_ops, most_long_ops, record_ops}
use Rattle.clip_run_rules.specs.Clips.{leading_soft, leading_hard, trailing_soft, trailing_hard}

-- a sum as a signed number; from 2^31 on refusal 4
unfoldable pub as_int : ℕ → Answer ℤ
as_int n = cond (ltb 2147483647 n) (Err Overflow) (Ok (pos n))

-- of a lent list of at most `limit` ops: 3, 4
unfoldable pub ref_length_up_to : ℕ → List ℕ → Answer ℤ
ref_length_up_to limit xs = cond (ltb limit (length xs)) (Err TooManyOps) (as_int (sum_of ref_len xs))

-- of a lent list of at most `limit` ops: 3
unfoldable pub query_length_up_to : ℕ → List ℕ → Answer ℕ
query_length_up_to limit xs = cond (ltb limit (length xs)) (Err TooManyOps) (Ok (sum_of query_len xs))

-- `reference_length_from_cigar`, `query_length_from_cigar`
abbrev pub ref_length : List ℕ → Answer ℤ
ref_length xs = ref_length_up_to most_ops xs

abbrev pub query_length : List ℕ → Answer ℕ
query_length xs = query_length_up_to most_ops xs

-- `long_reference_length_from_cigar`, `long_query_length_from_cigar`
abbrev pub long_ref_length : List ℕ → Answer ℤ
long_ref_length xs = ref_length_up_to most_long_ops xs

abbrev pub long_query_length : List ℕ → Answer ℕ
long_query_length xs = query_length_up_to most_long_ops xs

unfoldable pub saturated_length : List ℕ → Answer ℤ
saturated_length xs = cond (ltb most_ops (length xs)) (Err TooManyOps) (Ok (clamp32 (pos (sum_of ref_len xs))))

-- of a record: 1, 2, 4; document 02, item 7: "The default becomes the checked form's refusal"
unfoldable pub checked_ref_length : List ℕ → Answer ℤ
checked_ref_length b =
    cond (is_short b) (Err ShortRecord)
    (cond (ltb (length b) (ops_end b)) (Err AreaOverrun)
    (as_int (sum_of ref_len (record_ops b))))

-- of a record: 1
unfoldable pub record_query_length : List ℕ → Answer ℕ
record_query_length b = cond (is_short b) (Err ShortRecord) (Ok (sum_of query_len (record_ops b)))

-- both of an op list, and "leading and trailing soft and hard totals" (document 02): 4
abbrev pub lengths_with : Answer ℤ → List ℕ → Answer RecordLengths
lengths_with (Ok z) xs = Ok (record {
  reference = z;
  query = sum_of query_len xs;
  leading = record { soft = leading_soft xs; hard = leading_hard xs };
  trailing = record { soft = trailing_soft xs; hard = trailing_hard xs };
})
lengths_with (Err r) xs = Err r

abbrev pub list_lengths : List ℕ → Answer RecordLengths
list_lengths xs = lengths_with (as_int (sum_of ref_len xs)) xs

-- `cigar_lengths`: 1, 4
unfoldable pub record_lengths : List ℕ → Answer RecordLengths
record_lengths b = cond (is_short b) (Err ShortRecord) (list_lengths (record_ops b))

abbrev pub tell_lengths : Answer RecordLengths → Told
tell_lengths (Ok l) =
    answered (l.reference ∷ pos l.query ∷ pos l.leading.soft ∷ pos l.leading.hard ∷ pos l.trailing.soft ∷ pos l.trailing.hard ∷ [])
tell_lengths (Err r) = refused r
