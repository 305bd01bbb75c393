-- Document 01, module 10: "`is_mapped_opposite_strand_pair_raw`: paired, both mapped, same reference, strands differ. Such a pair is FR: for a reverse record,
-- if mate start ≤ own end; for a forward one, if template length is at least 1, or with mate ops, if own start ≤ mate end." Sums here are the Rust's of 64 bits, which don't overflow.
-- Document 02, item 7: the pair tests "pass the refusal on wherever they ask for this length"; "a pair whose flags already fail still answers no".
use Rattle.std.specs.Prelude.{ℕ, Bool, false, cond, not, ◌&&◌, List, ℤ, pos, ◌+ℤ◌, ◌-ℤ◌, Err, Ok}
use Rattle.answers.specs.Answer.{Answer}
use Rattle.std.specs.Bool.{xor}
use Rattle.std.specs.Int.Signed.{le_z}
use Rattle.signed.specs.Equal.{eqℤ}
use Rattle.sam.specs.Record.{ref_id_of, pos_of, flags_of, mate_ref_id_of, mate_pos_of, template_len_of, is_paired, is_unmapped, is_mate_unmapped, is_reverse, is_mate_reverse, is_short}
use Rattle.answers.specs.declared.Refusal.TheVariants.{ShortRecord}
use Rattle.length_rules.specs.Lengths.{checked_ref_length}

-- "both mapped", by a record's flag
unfoldable pub both_mapped : ℕ → Bool
both_mapped f = not (is_unmapped f) && not (is_mate_unmapped f)

-- "paired, both mapped, same reference, strands differ"
unfoldable pub is_opposite : List ℕ → Bool
is_opposite b =
    is_paired (flags_of b) && both_mapped (flags_of b) && eqℤ (ref_id_of b) (mate_ref_id_of b)
    && xor (is_reverse (flags_of b)) (is_mate_reverse (flags_of b))

-- the first and the last position, counted from 1, of n reference bases at a record's position
abbrev pub start_of : ℤ → ℤ
start_of p = p +ℤ pos 1

abbrev pub last_of : ℤ → ℤ → ℤ
last_of p n = start_of p +ℤ n -ℤ pos 1

-- the order of the two, by a length that was asked for; its refusal is passed on
abbrev pub starts_before_end : ℤ → ℤ → Answer ℤ → Answer Bool
starts_before_end s p (Ok n) = Ok (le_z (start_of s) (last_of p n))
starts_before_end s p (Err r) = Err r

-- "for a reverse record, if mate start ≤ own end"
unfoldable pub mate_starts_before : List ℕ → Answer Bool
mate_starts_before b = starts_before_end (mate_pos_of b) (pos_of b) (checked_ref_length b)

-- "Such a pair is FR", by the test of a forward record
unfoldable pub fr_by : Bool → List ℕ → Answer Bool
fr_by forward b = cond (is_opposite b) (cond (is_reverse (flags_of b)) (mate_starts_before b) (Ok forward)) (Ok false)

-- "for a forward one, if template length is at least 1"
abbrev pub is_fr : List ℕ → Answer Bool
is_fr b = fr_by (le_z (pos 1) (template_len_of b)) b

-- "or with mate ops, if own start ≤ mate end": n is the mate's reference length
abbrev pub is_fr_with_mate : List ℕ → ℤ → Answer Bool
is_fr_with_mate b n = fr_by (le_z (start_of (pos_of b)) (last_of (mate_pos_of b) n)) b

-- two records, all of them mapped, same reference, strands differ
unfoldable pub are_opposite : List ℕ → List ℕ → Bool
are_opposite a b =
    both_mapped (flags_of a) && both_mapped (flags_of b) && eqℤ (ref_id_of a) (ref_id_of b)
    && xor (is_reverse (flags_of a)) (is_reverse (flags_of b))

-- the reverse record decides
unfoldable pub is_primary_fr : List ℕ → List ℕ → Answer Bool
is_primary_fr a b = cond (are_opposite a b) (is_fr (cond (is_reverse (flags_of a)) a b)) (Ok false)

-- ---- the calls: 1; then, where a reverse record is asked for its length, 2 and 4

unfoldable pub opposite_pair : List ℕ → Answer Bool
opposite_pair b = cond (is_short b) (Err ShortRecord) (Ok (is_opposite b))

unfoldable pub fr_pair : List ℕ → Answer Bool
fr_pair b = cond (is_short b) (Err ShortRecord) (is_fr b)

unfoldable pub primary_fr_pair : List ℕ → List ℕ → Answer Bool
primary_fr_pair a b =
    cond (is_short a) (Err ShortRecord)
    (cond (is_short b) (Err ShortRecord)
    (is_primary_fr a b))
