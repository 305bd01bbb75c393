-- Document 02, item 8: "Given a record, an end and an amount, write a new one". Refusals 1, 2, 8, 19, 15, 16, 4, and 6 where it is written.
use Rattle.std.specs.Prelude.{ℕ, ◌-◌, Bool, true, false, cond, not, ◌&&◌, List, ltb, eqb, ℤ, pos, ◌+ℤ◌, length, Err, None, Ok, Option, Some}
use Rattle.answers.specs.Answer.{Answer}
use Rattle.std.specs.Int.Signed.{lt_z}
use Rattle.lists.specs.Lists.{splice, sum_of}
use Rattle.signed.specs.Whole.{checked}
use Rattle.sam.specs.Op.{len_of, ref_len, query_len}
use Rattle.sam.specs.Record.{is_short, seq_len_of, pos_of, tags_start}
use Rattle.oplist.specs.Ops.{record_ops}
use Rattle.answers.specs.Settled.{Outcome, keeps}
use Rattle.answers.specs.declared.Refusal.{Refusal}
use Rattle.answers.specs.declared.Refusal.TheVariants.{ShortRecord, AreaOverrun, Overflow, NoRoom, TooLong, AmountBeyond, QueryDiffers, CountOver}
use Rattle.length_rules.specs.Lengths.{as_int}
use Rattle.bin_rules.specs.Bin.{bin_from}
use Rattle.clip_rules.specs.Answer.{clipped_ops, clipped_count, is_beyond, without_count}
use Rattle.clip_rules.specs.declared.Clipped.{Clipped}
use Rattle.record_rules.specs.Written.{Change, new_record}

-- the most ops that a record counts
abbrev pub most_record_ops : ℕ
most_record_ops = 65535

-- 15: "query length differs from nonzero l_seq"
unfoldable pub differs : ℕ → ℕ → Bool
differs len query = not (eqb len 0) && not (eqb query len)

-- "The lost query part is the drop in query length"
abbrev pub lost_query : List ℕ → List ℕ → ℕ
lost_query xs ys = sum_of query_len xs - sum_of query_len ys

-- "New l_seq is l_seq less" that; "With l_seq 0 nothing is removed there": a difference is 0 where it would be below
abbrev pub new_len : List ℕ → List ℕ → ℕ
new_len b ys = seq_len_of b - lost_query (record_ops b) ys

-- "taken from the chosen end": the first base that stays
abbrev pub first_kept : List ℕ → Bool → ℕ → ℕ
first_kept b start len = cond start (seq_len_of b - len) 0

-- `pos` is moved "by the start count"; at the end there is none
abbrev pub start_count : List ℕ → ℕ → Bool → ℕ
start_count xs amount start = cond start (clipped_count xs amount start) 0

-- the bin of a record at a position, with so many reference bases: 4680 below 0; 4 where its sum overflows
unfoldable pub bin_at : ℤ → ℕ → Answer ℕ
bin_at z refs = cond (lt_z z (pos 0)) (Ok 4680) (bin_from z (as_int refs))

-- what becomes of a record: a refusal, or a change
pub data Fate : Type 0 where
  Refuses : Refusal → Fate
  Becomes : Change → Fate

-- 4, of the bin
unfoldable pub binned : List ℕ → List ℕ → Bool → ℕ → ℤ → Answer ℕ → Fate
binned b ys start count z (Err r) = Refuses r
binned b ys start count z (Ok bin) =
    Becomes (record { ops = ys; place = z; bin = bin; len = new_len b ys; from = first_kept b start (new_len b ys); count = count })

-- 4, of the position
unfoldable pub placed : List ℕ → List ℕ → Bool → ℕ → Option ℤ → Fate
placed b ys start count None = Refuses Overflow
placed b ys start count (Some z) = binned b ys start count z (bin_at z (sum_of ref_len ys))

-- the ops ys and the count, by the record's own numbers: 15, 16, 4
unfoldable pub counted : List ℕ → List ℕ → Bool → ℕ → Fate
counted b ys start count =
    cond (differs (seq_len_of b) (sum_of query_len (record_ops b))) (Refuses QueryDiffers)
    (cond (ltb most_record_ops (length ys)) (Refuses CountOver)
    (placed b ys start count (checked (pos_of b +ℤ pos count))))

-- 1; 2 "also where the record ends before its last quality"; 8 and 19 as clipping has them; then those
unfoldable pub clipped_fate : List ℕ → ℕ → Bool → Fate
clipped_fate b amount start =
    cond (is_short b) (Refuses ShortRecord)
    (cond (ltb (length b) (tags_start b)) (Refuses AreaOverrun)
    (cond (ltb 268435455 (sum_of len_of (record_ops b))) (Refuses TooLong)
    (cond (is_beyond (record_ops b) amount start) (Refuses AmountBeyond)
    (counted b (clipped_ops (record_ops b) amount start) start (start_count (record_ops b) amount start)))))

-- 6; else the bytes written and the count are the answer
unfoldable pub put_into : List ℕ → ℕ → List ℕ → Outcome (Answer Clipped)
put_into new count d =
    cond (ltb (length d) (length new)) (keeps (Err NoRoom) d)
    (record { answer = Ok (record { written = length new; lost = count }); left = splice d 0 new })

unfoldable pub written : List ℕ → Fate → List ℕ → Outcome (Answer Clipped)
written b (Refuses r) d = keeps (Err r) d
written b (Becomes c) d = put_into (new_record b c) c.count d

-- `clip_record_start`, `clip_record_end`: "a start call with count, an end call without"
abbrev pub clipped_record_start : List ℕ → ℕ → List ℕ → Outcome (Answer Clipped)
clipped_record_start b amount d = written b (clipped_fate b amount true) d

abbrev pub clipped_record_end : List ℕ → ℕ → List ℕ → Outcome (Answer ℕ)
clipped_record_end b amount d = without_count (written b (clipped_fate b amount false) d)
