-- Document 01, "Numbers and their bounds" and "Clipping", and document 02, item 12: what the start call and the end call answer and leave in the lent output.
-- Refusals 3 (1 for a record), 8, 19, 6.
use Rattle.std.specs.Prelude.{ℕ, ◌+◌, Bool, true, false, cond, not, ◌&&◌, List, [], ◌∷◌, pos, length, eqb, ltb, Err, Ok}
use Rattle.answers.specs.Answer.{Answer}
use Rattle.lists.specs.Lists.{facing, splice, sum_of}
use Rattle.sam.specs.Op.{len_of}
use Rattle.sam.specs.Record.{is_short}
use Rattle.oplist.specs.Ops.{most_ops, most_long_ops, record_ops}
use Rattle.ops.specs.Ops.{read_len}
use Rattle.clip_run_rules.specs.Clips.{leading_clips}
use Rattle.answers.specs.Answers.{Told, answered, refused}
use Rattle.answers.specs.Settled.{Outcome, keeps}
use Rattle.answers.specs.declared.Refusal.TheVariants.{ShortRecord, TooManyOps, TooLong, NoRoom, AmountBeyond}
use Rattle.clip_rules.specs.Clipping.{clip}
use Rattle.clip_rules.specs.declared.Clipped.{Clipped}

-- the clipped list: the rule works on the list as seen from the chosen end
unfoldable pub clipped_ops : List ℕ → ℕ → Bool → List ℕ
clipped_ops xs amount start = facing start (clip (facing start xs) amount).ops

-- the count: "the reference length taken"
unfoldable pub clipped_count : List ℕ → ℕ → Bool → ℕ
clipped_count xs amount start = (clip (facing start xs) amount).lost

-- what can be clipped at an end: "the end's clip run plus the list's M, I, = and X bases", E + R
unfoldable pub clippable : List ℕ → Bool → ℕ
clippable xs start = leading_clips (facing start xs) + sum_of read_len xs

-- 19: an amount beyond that, "and not for an empty list"
unfoldable pub is_beyond : List ℕ → ℕ → Bool → Bool
is_beyond xs amount start = not (eqb (length xs) 0) && ltb (clippable xs start) amount

-- an answer that is given: the ops written, and the count
abbrev pub given : ℕ → ℕ → Answer Clipped
given n count = Ok (record { written = n; lost = count })

-- the clipped list and the count are the answer
abbrev pub written : List ℕ → ℕ → List ℕ → Outcome (Answer Clipped)
written ys count d = record { answer = given (length ys) count; left = splice d 0 ys }

-- 8 sums the lengths of all ops, whatever their codes; 19 comes "directly after 8"; then 6
unfoldable pub clipped_into : List ℕ → ℕ → Bool → List ℕ → Outcome (Answer Clipped)
clipped_into xs amount start d =
    cond (ltb 268435455 (sum_of len_of xs)) (keeps (Err TooLong) d)
    (cond (is_beyond xs amount start) (keeps (Err AmountBeyond) d)
    (cond (ltb (length d) (length (clipped_ops xs amount start))) (keeps (Err NoRoom) d)
    (written (clipped_ops xs amount start) (clipped_count xs amount start) d)))

-- a list of at most `limit` ops: 3 comes first
unfoldable pub clipped_up_to : ℕ → List ℕ → ℕ → Bool → List ℕ → Outcome (Answer Clipped)
clipped_up_to limit xs amount start d = cond (ltb limit (length xs)) (keeps (Err TooManyOps) d) (clipped_into xs amount start d)

-- a record: 1 comes first; an overrun area is an empty list
unfoldable pub clipped_record : List ℕ → ℕ → Bool → List ℕ → Outcome (Answer Clipped)
clipped_record b amount start d = cond (is_short b) (keeps (Err ShortRecord) d) (clipped_into (record_ops b) amount start d)

-- "a start call, with count, and an end call, without one": there the answer is the ops written alone
abbrev pub uncounted : Answer Clipped → Answer ℕ
uncounted (Ok got) = Ok got.written
uncounted (Err r) = Err r

abbrev pub without_count : Outcome (Answer Clipped) → Outcome (Answer ℕ)
without_count o = record { answer = uncounted o.answer; left = o.left }

-- of a lent list, with the limit as a parameter
abbrev pub start_up_to : ℕ → List ℕ → ℕ → List ℕ → Outcome (Answer Clipped)
start_up_to limit xs amount d = clipped_up_to limit xs amount true d

abbrev pub end_up_to : ℕ → List ℕ → ℕ → List ℕ → Outcome (Answer ℕ)
end_up_to limit xs amount d = without_count (clipped_up_to limit xs amount false d)

-- `clip_cigar_start_raw`, `clip_cigar_end_raw`
abbrev pub clipped_start : List ℕ → ℕ → List ℕ → Outcome (Answer Clipped)
clipped_start xs amount d = start_up_to most_ops xs amount d

abbrev pub clipped_end : List ℕ → ℕ → List ℕ → Outcome (Answer ℕ)
clipped_end xs amount d = end_up_to most_ops xs amount d

-- document 02, item 1: `long_clip_cigar_start_raw`, `long_clip_cigar_end_raw`
abbrev pub long_start : List ℕ → ℕ → List ℕ → Outcome (Answer Clipped)
long_start xs amount d = start_up_to most_long_ops xs amount d

abbrev pub long_end : List ℕ → ℕ → List ℕ → Outcome (Answer ℕ)
long_end xs amount d = end_up_to most_long_ops xs amount d

-- `clip_cigar_start`, `clip_cigar_end`
abbrev pub record_start : List ℕ → ℕ → List ℕ → Outcome (Answer Clipped)
record_start b amount d = clipped_record b amount true d

abbrev pub record_end : List ℕ → ℕ → List ℕ → Outcome (Answer ℕ)
record_end b amount d = without_count (clipped_record b amount false d)

-- document 01's number and values of a start call's answer: the ops written, and the count. The end call's is told as any count is
abbrev pub tell_clipped : Answer Clipped → Told
tell_clipped (Ok got) = answered (pos got.written ∷ pos got.lost ∷ [])
tell_clipped (Err r) = refused r
