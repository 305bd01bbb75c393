-- Document 01, module 7: "`unclipped_5prime_from_raw_bam`: [..] from `pos` + 1, forward less the leading S and H, reverse plus reference length plus clips after the last
-- reference op, less 1. `unclipped_5prime_raw` returns the given position for no ops or overrun."
-- Document 02, item 3: "The family builder wants three answers: a position, unmapped, or no ops, which an overrun area also gives."
use Rattle.std.specs.Prelude.{ℕ, Bool, cond, List, [], ◌∷◌, eqb, ℤ, pos, length, Err, None, Ok, Option, Some}
use Rattle.answers.specs.Answer.{Answer}
use Rattle.answers.specs.declared.Pos1.{Pos1}
use Rattle.std.specs.Int.Signed.{lt_z}
use Rattle.lists.specs.Lists.{sum_of}
use Rattle.signed.specs.Whole.{natural}
use Rattle.sam.specs.Op.{ref_len}
use Rattle.sam.specs.Record.{is_short, pos_of, flags_of, is_unmapped, is_reverse}
use Rattle.oplist.specs.Ops.{record_ops}
use Rattle.clip_run_rules.specs.Clips.{leading_clips, clips_after_reference}
use Rattle.length_rules.specs.Lengths.{checked_ref_length}
use Rattle.answers.specs.Answers.{Told, answered, refused}
use Rattle.answers.specs.declared.Pos0.{Pos0}
use Rattle.answers.specs.declared.Refusal.TheVariants.{ShortRecord, Overflow}
use Rattle.ends_rules.specs.declared.Unclipped.{Unclipped}
use Rattle.ends_rules.specs.Sums.{◌⊕◌, ◌⊖◌, summed}
use Rattle.ends_rules.specs.Tails.{greatest_run}

-- ---- the unclipped ends of an op list that is aligned at a place, counted from 0 or from 1 as the place is

-- "forward less the leading S and H"
unfoldable pub unclipped_start : ℤ → List ℕ → Option ℤ
unclipped_start at xs = Some at ⊖ summed (leading_clips xs)

-- the clips after the last reference op, where the Rust's sum of clips gets so far
abbrev pub provided : Option ℤ → Option ℤ → Option ℤ
provided (Some z) s = s
provided None s = None

unfoldable pub trailing_sum : List ℕ → Option ℤ
trailing_sum xs = provided (summed (greatest_run xs)) (Some (pos (clips_after_reference xs)))

-- "reverse plus reference length plus clips after the last reference op, less 1"
unfoldable pub unclipped_end : ℤ → List ℕ → Option ℤ
unclipped_end at xs = Some at ⊕ summed (sum_of ref_len xs) ⊕ trailing_sum xs ⊖ Some (pos 1)

unfoldable pub five_prime : Bool → ℤ → List ℕ → Option ℤ
five_prime reverse at xs = cond reverse (unclipped_end at xs) (unclipped_start at xs)

-- ---- places, counted from 0 and from 1; a sum that overflows is refusal 4

abbrev pub to_place0 : Option ℤ → Answer Pos0
to_place0 (Some z) = Ok (record { 0 = z })
to_place0 None = Err Overflow

abbrev pub to_place1 : Option ℤ → Answer (Option Pos1)
to_place1 (Some z) = Ok (Some (record { 0 = z }))
to_place1 None = Err Overflow

-- "0-based record positions and 1-based answers are kept apart": the one conversion
unfoldable pub plus_one : Pos0 → Option ℤ
plus_one p = Some p.0 ⊕ Some (pos 1)

abbrev pub one_based : Pos0 → Answer (Option Pos1)
one_based p = to_place1 (plus_one p)

-- ---- the calls

-- "no ops or overrun": the record's list is empty
abbrev pub has_no_ops : List ℕ → Bool
has_no_ops b = eqb (length (record_ops b)) 0

-- a position, or 4
abbrev pub as_unclipped : Option ℤ → Answer Unclipped
as_unclipped (Some z) = Ok (Unclipped.At (record { 0 = z }))
as_unclipped None = Err Overflow

-- "from `pos` + 1"
abbrev pub unclipped_at : Option ℤ → Bool → List ℕ → Answer Unclipped
unclipped_at (Some at) reverse xs = as_unclipped (five_prime reverse at xs)
unclipped_at None reverse xs = Err Overflow

-- "a position [..] or no ops", of an op list that is aligned at a place; 4
abbrev pub unclipped_by : List ℕ → Pos0 → Bool → Answer Unclipped
unclipped_by xs p reverse = cond (eqb (length xs) 0) (Ok Unclipped.NoOps) (unclipped_at (plus_one p) reverse xs)

-- "a position, unmapped, or no ops", unmapped first, as the Rust asks; 1, and 4
unfoldable pub unclipped_of : List ℕ → Answer Unclipped
unclipped_of b =
    cond (is_short b) (Err ShortRecord)
    (cond (is_unmapped (flags_of b)) (Ok Unclipped.Unmapped)
    (unclipped_by (record_ops b) (record { 0 = pos_of b }) (is_reverse (flags_of b))))

-- told as which of the three it is, 0, 1 or 2, and the position, 0 where there is none
abbrev pub tell_unclipped : Answer Unclipped → Told
tell_unclipped (Ok (Unclipped.At p)) = answered (pos 0 ∷ p.0 ∷ [])
tell_unclipped (Ok Unclipped.Unmapped) = answered (pos 1 ∷ pos 0 ∷ [])
tell_unclipped (Ok Unclipped.NoOps) = answered (pos 2 ∷ pos 0 ∷ [])
tell_unclipped (Err r) = refused r

-- "returns the given position for no ops or overrun": 1, 4
unfoldable pub unclipped_from : List ℕ → Pos0 → Bool → Answer Pos0
unclipped_from b p reverse =
    cond (is_short b) (Err ShortRecord)
    (cond (has_no_ops b) (Ok p)
    (to_place0 (five_prime reverse p.0 (record_ops b))))

-- "Rust's None in start, end is the answer none": a start below 0: 1, 4
unfoldable pub alignment_start : List ℕ → Answer (Option Pos1)
alignment_start b =
    cond (is_short b) (Err ShortRecord)
    (cond (lt_z (pos_of b) (pos 0)) (Ok None)
    (one_based (record { 0 = pos_of b })))

-- and no reference length; `pos`, counted from 0, and the length give the last place counted from 1; a refused length is passed on
abbrev pub end_at : ℤ → Answer ℤ → Answer (Option Pos1)
end_at p (Ok n) = cond (eqb (natural n) 0) (Ok None) (to_place1 (Some p ⊕ Some n))
end_at p (Err r) = Err r

-- 1; none where `pos` is below 0; 2 and 4 of the length, 4 of the end
unfoldable pub alignment_end : List ℕ → Answer (Option Pos1)
alignment_end b =
    cond (is_short b) (Err ShortRecord)
    (cond (lt_z (pos_of b) (pos 0)) (Ok None)
    (end_at (pos_of b) (checked_ref_length b)))
