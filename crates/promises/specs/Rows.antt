-- Document 01, "Numbers and their bounds", the refusal table: each number with the words of its row, then the rows of each call in its order:
-- "list calls 3, 8, 9, 4, 6; printing 1, 7, 6; strict text 5, 3, 6; records 1, 3, 2, 8, 4, 6." Document 02, item 7: "2 and 4 now come from these callers, after 1",
-- wherever end, bin, pair tests and overhang ask for a record's reference length; item 5: 14 "after 3 and before 4". Item 12: 19 of the two clipping calls, "directly after 8". Item 11: "17 [..], 18 [..]; then 6."
use Rattle.std.specs.Prelude.{ℕ, ◌+◌, Bool, true, false, cond, not, ◌||◌, ◌&&◌, List, [], ◌∷◌, ◌++◌, ltb, eqb, ℤ, pos, negsuc, ◌+ℤ◌, ◌-ℤ◌, length, Err, Ok}
use Rattle.answers.specs.Answer.{Answer}
use Rattle.std.specs.Int.Signed.{lt_z}
use Rattle.lists.specs.Lists.{facing, sum_of}
use Rattle.signed.specs.Whole.{clamp32}
use Rattle.sam.specs.Op.{len_of, ref_len}
use Rattle.ops.specs.Ops.{read_len}
use Rattle.sam.specs.Record.{pos_of, mate_pos_of, flags_of, is_unmapped, is_reverse, ops_end, is_short}
use Rattle.bed_rules.specs.Blocks.{blocks}
use Rattle.bed_rules.specs.Bed.{unfit}
use Rattle.clip_run_rules.specs.Clips.{leading_clips, clips_after_reference}
use Rattle.bin_rules.specs.Bin.{span_of}
use Rattle.csi_rules.specs.Csi.{served, inside, region_bins}
use Rattle.print_rules.specs.Text.{any_bad, text_of}
use Rattle.oplist.specs.Ops.{most_ops, record_ops}
use Rattle.text_rules.specs.Text.{text_ops}
use Rattle.text_rules.specs.Valid.{valid_mapped}
use Rattle.text_rules.specs.Strict.{strict}
use Rattle.ends_rules.specs.Tails.{greatest_run}
use Rattle.ends_rules.specs.Ends.{has_no_ops}
use Rattle.clip_rules.specs.Answer.{clipped_ops}
use Rattle.pairs_rules.specs.Pairs.{is_opposite, is_fr_with_mate, are_opposite, is_primary_fr}
use Rattle.promises.specs.Table.{Row, ◌when◌, only}

-- ---- the numbers

-- 1: "a record has under 32 bytes"
abbrev pub short : List ℕ → Row
short b = 1 when is_short b

-- 2: "the op area ends past the record"
abbrev pub overrun : List ℕ → Row
overrun b = 2 when ltb (length b) (ops_end b)

-- 3: "a list, given or parsed, has over 65,535 ops"
abbrev pub too_many : List ℕ → Row
too_many xs = 3 when ltb most_ops (length xs)

-- 4: "a signed 32-bit sum overflows where Rust with overflow checks stops": of the sums that it makes, one is below -2^31 or above 2^31 - 1
abbrev pub outside : ℤ → Bool
outside z = lt_z z (negsuc 2147483647) || lt_z (pos 2147483647) z

abbrev pub any_outside : List ℤ → Bool
any_outside [] = false
any_outside (z ∷ zs) = outside z || any_outside zs

abbrev pub over : List ℤ → Row
over zs = 4 when any_outside zs

-- 5: "the strict text reader refuses": the text is not one of the specification's grammar that it takes (SamLaws: `strict_takes`, `strict_only`)
abbrev pub not_strict : List ℕ → Row
not_strict s = 5 when not (strict s)

-- 6: "the answer is longer than the lent output"
abbrev pub no_room : List ℕ → ℕ → Row
no_room d n = 6 when ltb (length d) n

-- 7: "printing meets a code 9 to 15"
abbrev pub bad_code : List ℕ → Row
bad_code xs = 7 when any_bad xs

-- 8: "clipping: total length 2^28 or more"
abbrev pub too_long : List ℕ → Row
too_long xs = 8 when ltb 268435455 (sum_of len_of xs)

-- 9: "lookup: alignment start outside its bounds", which are 1 and 2,147,483,648
abbrev pub bad_start : ℕ → Row
bad_start start = 9 when (ltb start 1 || ltb 2147483648 start)

-- 10: "`CigarOp::new`: length 0 or above 268,435,455"
abbrev pub bad_length : ℕ → Row
bad_length n = 10 when (eqb n 0 || ltb 268435455 n)

-- 14, document 02: "a start below 0, no block, or an N before the first or after the last block"
abbrev pub no_blocks : ℤ → List ℕ → Row
no_blocks start xs = 14 when (lt_z start (pos 0) || unfit xs)

-- 17: "depth or shift out of range", which are 1 to 8 and 10 to 20
abbrev pub bad_levels : ℕ → ℕ → Row
bad_levels s d = 17 when not (served s d)

-- 18: "unless 0 ≤ beg < end ≤ 2^(min_shift + 3 × depth)"
abbrev pub bad_region : ℤ → ℤ → ℕ → ℕ → Row
bad_region beg end s d = 18 when not (inside s d beg end)

-- 19, document 02: "amounts beyond the end's clip run plus the list's M, I, = and X bases", "and not for an empty list"
abbrev pub beyond : List ℕ → ℕ → Bool → Row
beyond xs amount start = 19 when (not (eqb (length xs) 0) && ltb (leading_clips (facing start xs) + sum_of read_len xs) amount)

-- ---- a record's reference length, where it is asked for: 2, 4

abbrev pub refs_of : List ℕ → ℤ
refs_of b = pos (sum_of ref_len (record_ops b))

abbrev pub asked : List ℕ → List Row
asked b = overrun b ∷ over (refs_of b ∷ []) ∷ []

-- ---- fields, ops, lengths, bins

-- the ten fields, `cigar_raw_bytes`, `query_length`, `is_mapped_opposite_strand_pair_raw`
abbrev pub record_rows : List ℕ → List Row
record_rows b = short b ∷ []

-- `get_cigar_ops`
abbrev pub ops_rows : List ℕ → List ℕ → List Row
ops_rows b d = short b ∷ no_room d (length (record_ops b)) ∷ []

-- `CigarOp::new`
abbrev pub new_rows : ℕ → List Row
new_rows n = bad_length n ∷ []

-- `query_length_from_cigar`, `saturating_reference_length`, `is_valid_mapped_cigar`
abbrev pub list_rows : List ℕ → List Row
list_rows xs = too_many xs ∷ []

-- `reference_length_from_cigar`
abbrev pub length_rows : List ℕ → List Row
length_rows xs = too_many xs ∷ over (pos (sum_of ref_len xs) ∷ []) ∷ []

-- `reference_length_from_raw_bam`, `reference_length_from_raw_bam_checked`
abbrev pub checked_rows : List ℕ → List Row
checked_rows b = short b ∷ asked b

-- `cigar_lengths`
abbrev pub lengths_rows : List ℕ → List Row
lengths_rows b = short b ∷ over (refs_of b ∷ []) ∷ []

-- `reg2bin`
abbrev pub region_rows : ℤ → List Row
region_rows end = over ((end -ℤ pos 1) ∷ []) ∷ []

-- `bin_from_raw_bam`, `set_bin_from_raw_bam`: nothing is asked for or summed of a record "with `pos` below 0"
abbrev pub bin_rows : List ℕ → List Row
bin_rows b =
    let end = pos_of b +ℤ span_of (refs_of b) in
    short b ∷ only (not (lt_z (pos_of b) (pos 0))) (asked b ++ (over (end ∷ (end -ℤ pos 1) ∷ []) ∷ []))

-- `csi_reg2bin`
abbrev pub csi_rows : ℤ → ℤ → ℕ → ℕ → List Row
csi_rows beg end s d = bad_levels s d ∷ bad_region beg end s d ∷ []

-- `csi_reg2bins`
abbrev pub csi_list_rows : ℤ → ℤ → ℕ → ℕ → List ℕ → List Row
csi_list_rows beg end s d out = bad_levels s d ∷ bad_region beg end s d ∷ no_room out (length (region_bins beg end s d)) ∷ []

-- ---- text

-- `cigar_to_bytes_into`
abbrev pub print_rows : List ℕ → List ℕ → List Row
print_rows b d = short b ∷ bad_code (record_ops b) ∷ no_room d (length (text_of (record_ops b))) ∷ []

-- `parse_cigar_string_ops`
abbrev pub text_rows : List ℕ → List ℕ → List Row
text_rows s d = not_strict s ∷ too_many (text_ops s) ∷ no_room d (length (text_ops s)) ∷ []

-- ---- ends and lookup

-- "forward less the leading S and H, reverse plus reference length plus clips after the last reference op, less 1": the Rust's sums, in its order; each of lengths
-- comes to its total, and the clips between two reference ops are summed too
abbrev pub end_sums : Bool → ℤ → List ℕ → List ℤ
end_sums false at xs =
    let clips = pos (leading_clips xs) in
    clips ∷ (at -ℤ clips) ∷ []
end_sums true at xs =
    let refs = pos (sum_of ref_len xs) in
    let clips = pos (clips_after_reference xs) in
    refs ∷ (at +ℤ refs) ∷ pos (greatest_run xs) ∷ (at +ℤ refs +ℤ clips) ∷ (at +ℤ refs +ℤ clips -ℤ pos 1) ∷ []

-- of a list that has ops, "from `pos` + 1"
abbrev pub place_rows : List ℕ → ℤ → Bool → List Row
place_rows xs p reverse =
    let at = p +ℤ pos 1 in
    only (not (eqb (length xs) 0)) (over (at ∷ end_sums reverse at xs) ∷ [])

-- `unclipped_5prime_from_raw_bam`: of a mapped record
abbrev pub unclipped_rows : List ℕ → List Row
unclipped_rows b = short b ∷ only (not (is_unmapped (flags_of b))) (place_rows (record_ops b) (pos_of b) (is_reverse (flags_of b)))

-- `unclipped_5prime_raw`: of a record that has ops, from the given position
abbrev pub unclipped_from_rows : List ℕ → ℤ → Bool → List Row
unclipped_from_rows b at reverse = short b ∷ only (not (has_no_ops b)) (over (end_sums reverse at (record_ops b)) ∷ [])

-- `alignment_start_from_raw`: none where `pos` is below 0
abbrev pub start_rows : List ℕ → List Row
start_rows b = short b ∷ only (not (lt_z (pos_of b) (pos 0))) (over ((pos_of b +ℤ pos 1) ∷ []) ∷ [])

-- `alignment_end_from_raw`: none where `pos` is below 0; and none too where the reference length is 0, after it was asked for
abbrev pub end_rows : List ℕ → List Row
end_rows b =
    short b
    ∷ only (not (lt_z (pos_of b) (pos 0))) (asked b ++ only (not (eqb (sum_of ref_len (record_ops b)) 0)) (over ((pos_of b +ℤ refs_of b) ∷ []) ∷ []))

-- `read_pos_at_ref_pos_raw`
abbrev pub lookup_rows : List ℕ → ℕ → List Row
lookup_rows xs start = too_many xs ∷ bad_start start ∷ []

-- ---- clipping

-- of an op list wherever it lies
abbrev pub clip_into : List ℕ → ℕ → Bool → List ℕ → List Row
clip_into xs amount start d = too_long xs ∷ beyond xs amount start ∷ no_room d (length (clipped_ops xs amount start)) ∷ []

-- `clip_cigar_start_raw`, and with `start` false `clip_cigar_end_raw`
abbrev pub clip_rows : List ℕ → ℕ → Bool → List ℕ → List Row
clip_rows xs amount start d = too_many xs ∷ clip_into xs amount start d

-- `clip_cigar_start`, `clip_cigar_end`
abbrev pub clip_record_rows : List ℕ → ℕ → Bool → List ℕ → List Row
clip_record_rows b amount start d = short b ∷ clip_into (record_ops b) amount start d

-- ---- blocks

-- 6 of two outputs: either is too short
abbrev pub no_room_two : List ℕ → List ℕ → ℕ → Row
no_room_two d e n = 6 when (ltb (length d) n || ltb (length e) n)

-- `bed_blocks`: 4 where chromEnd, the start and the reference length, passes 2^31 - 1
abbrev pub bed_rows : ℤ → List ℕ → List ℕ → List ℕ → List Row
bed_rows start xs d e = too_many xs ∷ no_blocks start xs ∷ over ((start +ℤ pos (sum_of ref_len xs)) ∷ []) ∷ no_room_two d e (length (blocks xs)) ∷ []

-- ---- pair tests and overhang

-- of the pair that a record makes with its mate: the flags come first, and only a reverse record is asked for its length
abbrev pub pair_rows : List ℕ → List Row
pair_rows b = only (is_opposite b && is_reverse (flags_of b)) (asked b)

-- of two records: the guards over both come first, and the reverse one decides
abbrev pub both_pair_rows : List ℕ → List ℕ → List Row
both_pair_rows a b = only (are_opposite a b) (pair_rows (cond (is_reverse (flags_of a)) a b))

-- `is_fr_pair_raw`
abbrev pub fr_rows : List ℕ → List Row
fr_rows b = short b ∷ pair_rows b

-- `is_primary_fr_pair_raw`
abbrev pub two_rows : List ℕ → List ℕ → List Row
two_rows a b = short a ∷ short b ∷ both_pair_rows a b

-- `bases_extending_past_mate_ops`
abbrev pub extending_rows : List ℕ → List ℕ → List Row
extending_rows xs ys = too_many xs ∷ too_many ys ∷ []

-- the pair test answers yes
abbrev pub is_yes : Answer Bool → Bool
is_yes (Ok fr) = fr
is_yes (Err r) = false

-- of an FR pair both places are counted from 1
abbrev pub place_row : Bool → ℤ → ℤ → Row
place_row fr p m = 4 when (fr && any_outside ((p +ℤ pos 1) ∷ (m +ℤ pos 1) ∷ []))

-- the mate's ops decide whether the pair is FR, by their saturated length
abbrev pub by_ops : List ℕ → List ℕ → Row
by_ops b ys = place_row (is_yes (is_fr_with_mate b (clamp32 (pos (sum_of ref_len ys))))) (pos_of b) (mate_pos_of b)

-- `num_bases_extending_past_mate_cigar_raw`: a list that is no valid mapped CIGAR answers 0
abbrev pub mate_cigar_rows : List ℕ → List ℕ → List Row
mate_cigar_rows b ys = short b ∷ too_many ys ∷ only (valid_mapped ys) (pair_rows b ++ (by_ops b ys ∷ []))

-- `num_bases_extending_past_mate_vs_mate_raw`
abbrev pub mate_record_rows : List ℕ → List ℕ → List Row
mate_record_rows b m = short b ∷ short m ∷ (both_pair_rows b m ++ (place_row (is_yes (is_primary_fr b m)) (pos_of b) (pos_of m) ∷ []))

-- `num_bases_extending_past_mate_text_raw`: "refusal 5 gives overhang 0 [..]; 3 and 6 are passed on, in the records' order"
abbrev pub mate_text_rows : List ℕ → List ℕ → List ℕ → List Row
mate_text_rows b s d = short b ∷ only (strict s) (too_many (text_ops s) ∷ (pair_rows b ++ (by_ops b (text_ops s) ∷ no_room d (length (text_ops s)) ∷ [])))
