-- Document 02, item 1, the refusal table of the calls on long op lists. "Refusals of the new reader: 1, 2 for an overrun op area, 12, behind a placeholder only, bases,
-- qualities or tags up to the first CG that overrun, or among these tags a type not listed, 13 CG of another type, 3 above the new limit; in this order." The calls that
-- read its list refuse behind it as those on a record's own list do; a lent list has the new limit.
use Rattle.std.specs.Prelude.{ℕ, Bool, true, false, cond, not, ◌||◌, ◌&&◌, List, [], ◌∷◌, ◌++◌, ltb, pos, length, drop}
use Rattle.answers.specs.Answer.{Answer}
use Rattle.lists.specs.Lists.{sum_of}
use Rattle.sam.specs.Op.{ref_len}
use Rattle.sam.specs.Record.{seq_len_of, pos_of, flags_of, is_unmapped, is_reverse, tags_start}
use Rattle.sam.specs.Tags.{Tag, Tags, Ends, Breaks, Then, tags_of, is_cg, is_op_array, array_count, is_placeholder}
use Rattle.oplist.specs.Ops.{most_long_ops, record_ops}
use Rattle.print_rules.specs.Text.{text_of}
use Rattle.tag_rules.specs.Long.{true_list, read_from}
use Rattle.oplist.specs.declared.Area.{Area}
use Rattle.promises.specs.Table.{Row, ◌when◌, only}
use Rattle.promises.specs.Rows.{short, overrun, over, bad_code, bad_start, no_room, place_rows, clip_into}

-- ---- the reader

-- a record's ops are a placeholder; its tags stand behind its qualities
abbrev pub holds_placeholder : List ℕ → Bool
holds_placeholder b = is_placeholder (seq_len_of b) (record_ops b)

abbrev pub record_tags : List ℕ → Tags
record_tags b = tags_of (drop (tags_start b) b)

-- "tags up to the first CG that overrun, or among these tags a type not listed"
unfoldable pub breaks_early : Tags → Bool
breaks_early Ends = false
breaks_early Breaks = true
breaks_early (Then t ts) = cond (is_cg t) false (breaks_early ts)

-- there is a CG, and the first is of a kind
unfoldable pub first_is : (Tag → Bool) → Tags → Bool
first_is p Ends = false
first_is p Breaks = false
first_is p (Then t ts) = cond (is_cg t) (p t) (first_is p ts)

-- 12: "behind a placeholder only, bases, qualities or tags up to the first CG that overrun, or among these tags a type not listed"
abbrev pub bad_tags : List ℕ → Row
bad_tags b = 12 when (holds_placeholder b && (ltb (length b) (tags_start b) || breaks_early (record_tags b)))

-- 13: "CG of another type"
abbrev pub other_cg : List ℕ → Row
other_cg b = 13 when (holds_placeholder b && first_is (λ t. not (is_op_array t)) (record_tags b))

-- 3: "above the new limit"
abbrev pub long_cg : List ℕ → Row
long_cg b = 3 when (holds_placeholder b && first_is (λ t. ltb most_long_ops (array_count t)) (record_tags b))

-- `true_cigar_raw_bytes`
abbrev pub reader_rows : List ℕ → List Row
reader_rows b = short b ∷ overrun b ∷ bad_tags b ∷ other_cg b ∷ long_cg b ∷ []

-- ---- the calls that read its list

-- the ops that it hands back
abbrev pub ops_at : List ℕ → Answer Area → List ℕ
ops_at b t = read_from (λ r. []) (λ xs. xs) b t

abbrev pub held_ops : List ℕ → List ℕ
held_ops b = ops_at b (true_list b)

-- what a call refuses of the ops comes behind
abbrev pub behind_reader : (List ℕ → List Row) → List ℕ → List Row
behind_reader rows b = reader_rows b ++ rows (held_ops b)

-- `true_cigar_ops`
abbrev pub true_ops_rows : List ℕ → List ℕ → List Row
true_ops_rows b d = behind_reader (λ xs. no_room d (length xs) ∷ []) b

-- `true_cigar_to_bytes_into`
abbrev pub true_print_rows : List ℕ → List ℕ → List Row
true_print_rows b d = behind_reader (λ xs. bad_code xs ∷ no_room d (length (text_of xs)) ∷ []) b

-- `true_cigar_lengths`
abbrev pub true_lengths_rows : List ℕ → List Row
true_lengths_rows b = behind_reader (λ xs. over (pos (sum_of ref_len xs) ∷ []) ∷ []) b

-- `true_unclipped_5prime_from_raw_bam`: of a mapped record
abbrev pub true_unclipped_rows : List ℕ → List Row
true_unclipped_rows b = short b ∷ only (not (is_unmapped (flags_of b))) (behind_reader (λ xs. place_rows xs (pos_of b) (is_reverse (flags_of b))) b)

-- `true_clip_cigar_start`, and with `start` false `true_clip_cigar_end`
abbrev pub true_clip_rows : List ℕ → ℕ → Bool → List ℕ → List Row
true_clip_rows b amount start d = behind_reader (λ xs. clip_into xs amount start d) b

-- ---- lent lists

-- 3: "Limits rise to 1,048,576 ops"
abbrev pub too_many_long : List ℕ → Row
too_many_long xs = 3 when ltb most_long_ops (length xs)

-- `long_query_length_from_cigar`
abbrev pub long_list_rows : List ℕ → List Row
long_list_rows xs = too_many_long xs ∷ []

-- `long_reference_length_from_cigar`
abbrev pub long_length_rows : List ℕ → List Row
long_length_rows xs = too_many_long xs ∷ over (pos (sum_of ref_len xs) ∷ []) ∷ []

-- `long_read_pos_at_ref_pos_raw`
abbrev pub long_lookup_rows : List ℕ → ℕ → List Row
long_lookup_rows xs start = too_many_long xs ∷ bad_start start ∷ []

-- `long_clip_cigar_start_raw`, and with `start` false `long_clip_cigar_end_raw`
abbrev pub long_clip_rows : List ℕ → ℕ → Bool → List ℕ → List Row
long_clip_rows xs amount start d = too_many_long xs ∷ clip_into xs amount start d
