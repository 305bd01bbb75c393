-- The refusal table of long op lists: the reader gives the first of its rows, tag by tag; what a call refuses of the ops comes behind.
use Prim.Native.Nat.{ℕ, ◌+◌}
use Rattle.answers.specs.Answer.{Answer}
use Rattle.std.specs.Prelude.{Err, Ok}
use mathlib.Core.Path.{◌≡◌, refl, sym, ap, ◌∙◌}
use mathlib.Core.Bool.{Bool, true, false, cond, not, ◌||◌, ◌&&◌}
use mathlib.Core.List.{List, [], ◌++◌}
use lib.Dec.{ltb, eqb}
use lib.ListN.{length}
use Rattle.lists.specs.Lists.{sum_of}
use Rattle.sam.specs.Op.{ref_len}
use Rattle.sam.specs.Record.{is_short, pos_of, flags_of, is_unmapped, is_reverse, ops_end, ops_in, tags_start}
use Rattle.sam.specs.Tags.{Tags, Ends, Breaks, Then, is_cg, is_op_array, array_count}
use Rattle.oplist.specs.Ops.{most_long_ops}
use Rattle.answers.specs.Answers.{Told, number_of, tell_int, tell_count}
use Rattle.answers.specs.Settled.{Outcome}
use Rattle.answers.specs.declared.Refusal.{Refusal}
use Rattle.answers.specs.declared.Refusal.TheVariants.{ShortRecord, AreaOverrun, TooManyOps, BadTags, OtherCg, NoRoom, BadCode}
use Rattle.answers.proofs.Numbers.{not-zero}
use Rattle.copied_ops.specs.Copied.{copied_ops}
use Rattle.print_rules.specs.Text.{any_bad, text_of, printed_ops}
use Rattle.length_rules.specs.Lengths.{list_lengths, lengths_with, long_ref_length, long_query_length, tell_lengths}
use Rattle.lookup_rules.specs.Lookup.{long_looked, tell_found}
use Rattle.ends_rules.specs.Ends.{unclipped_by, tell_unclipped}
use Rattle.clip_rules.specs.Answer.{given, clipped_ops, clipped_count, clipped_into, long_start, long_end, tell_clipped}
use Rattle.tag_rules.specs.Long.{own_list, list_in, first_cg, behind_placeholder, true_list, refusal_of, read_from, tell_true_list}
use Rattle.oplist.specs.declared.Area.{Area}
use Rattle.true_rules.specs.True.{stop_kept, true_ops, true_printed, true_lengths, true_unclipped, true_clipped, true_start, true_end}
use Rattle.promises.specs.Table.{Row, first, Gives, GivesFilled}
use Rattle.promises.specs.LongRows.{holds_placeholder, record_tags, breaks_early, first_is, reader_rows, ops_at, held_ops, behind_reader, true_ops_rows, true_print_rows, true_lengths_rows, true_unclipped_rows, true_clip_rows, long_list_rows, long_length_rows, long_lookup_rows, long_clip_rows}
use Rattle.promises.proofs.RowLaws.{number_alone, refusal, answer, like, row, row_unless, kept_row, kept_refusal, like_filled, last_row}
use Rattle.promises.proofs.LeafRows.{total_rows, reference_length_up_to, query-length-up-to}
use Rattle.promises.proofs.EndRows.{unclipped-by, read_pos_up_to}
use Rattle.promises.proofs.ClipRows.{into_rows, list_rows, uncounted_rows}
use Rattle.ends_rules.specs.declared.Unclipped.TheVariants as Unclipped

-- ---- the reader

-- 12, 13, 3 of tags
abbrev tags_number : Tags → ℕ
tags_number ts =
    cond (breaks_early ts) 12
    (cond (first_is (λ t. not (is_op_array t)) ts) 13
    (cond (first_is (λ t. ltb most_long_ops (array_count t)) ts) 3 0))

tags_number_is : (x n at : ℕ) (ts : Tags) → refusal_of (first_cg (Ok (record { at = x; n = n })) at ts) ≡ tags_number ts
unfolding first_cg breaks_early first_is list_in
tags_number_is x n at Ends = refl
tags_number_is x n at Breaks = refl
tags_number_is x n at (Then t ts) = go (is_cg t) (is_op_array t) (ltb most_long_ops (array_count t)) (tags_number_is x n (at + (3 + length t.value)) ts)
  where
    go : (c o l : Bool) → refusal_of (first_cg (Ok (record { at = x; n = n })) (at + (3 + length t.value)) ts) ≡ tags_number ts
        → refusal_of
        (cond c (cond (not o) (Err OtherCg) (cond l (Err TooManyOps) (Ok (record { at = at + 3 + 5; n = array_count t })))) (first_cg (Ok (record { at = x; n = n })) (at + (3 + length t.value)) ts))
        ≡ cond (cond c false (breaks_early ts)) 12
        (cond (cond c (not o) (first_is (λ t. not (is_op_array t)) ts)) 13
        (cond (cond c l (first_is (λ t. ltb most_long_ops (array_count t)) ts)) 3 0))
    go true true true i = refl
    go true true false i = refl
    go true false l i = refl
    go false o l i = i

reader_number : (b : List ℕ) → refusal_of (true_list b) ≡ first (reader_rows b)
unfolding true_list behind_placeholder
reader_number b = go (is_short b) (ltb (length b) (ops_end b)) (holds_placeholder b) (ltb (length b) (tags_start b)) (tags_number_is _ _ (tags_start b) (record_tags b))
  where
    go : (s o p q : Bool) → refusal_of (first_cg (own_list b) (tags_start b) (record_tags b)) ≡ tags_number (record_tags b)
        → refusal_of
        (cond s (Err ShortRecord)
        (cond o (Err AreaOverrun)
        (cond p (cond q (Err BadTags) (first_cg (own_list b) (tags_start b) (record_tags b))) (own_list b))))
        ≡ cond s 1
        (cond o 2
        (cond (p && (q || breaks_early (record_tags b))) 12
        (cond (p && first_is (λ t. not (is_op_array t)) (record_tags b)) 13 (cond (p && first_is (λ t. ltb most_long_ops (array_count t)) (record_tags b)) 3 0))))
    go true o p q i = refl
    go false true p q i = refl
    go false false false q i = refl
    go false false true true i = refl
    go false false true false i = i

pub true_cigar_raw_bytes : (b : List ℕ) → Gives (tell_true_list (true_list b)) (reader_rows b)
true_cigar_raw_bytes b = go (true_list b) (reader_number b)
  where
    go : (t : Answer Area) → refusal_of t ≡ first (reader_rows b) → Gives (tell_true_list t) (reader_rows b)
    go (Ok got) e = answer refl e
    go (Err r) e = refusal refl e

-- ---- behind the reader

-- rows behind the reader's are looked at where none of those holds
behind_first : (b : List ℕ) (rows : List Row) → first (reader_rows b ++ rows) ≡ cond (eqb (first (reader_rows b)) 0) (first rows) (first (reader_rows b))
behind_first b rows = go (is_short b) (ltb (length b) (ops_end b)) (holds_placeholder b && (ltb (length b) (tags_start b) || breaks_early (record_tags b))) (holds_placeholder b && first_is (λ t. not (is_op_array t)) (record_tags b)) (holds_placeholder b && first_is (λ t. ltb most_long_ops (array_count t)) (record_tags b))
  where
    go : (s o p q l : Bool) → cond s 1 (cond o 2 (cond p 12 (cond q 13 (cond l 3 (first rows)))))
        ≡ cond (eqb (cond s 1 (cond o 2 (cond p 12 (cond q 13 (cond l 3 0))))) 0) (first rows) (cond s 1 (cond o 2 (cond p 12 (cond q 13 (cond l 3 0)))))
    go true o p q l = refl
    go false true p q l = refl
    go false false true q l = refl
    go false false false true l = refl
    go false false false false true = refl
    go false false false false false = refl

module _ (b : List ℕ) (rows : List Row) where
  past_reader : 0 ≡ first (reader_rows b) → first rows ≡ first (reader_rows b ++ rows)
  past_reader e = sym (behind_first b rows ∙ ap (λ (n : ℕ). cond (eqb n 0) (first rows) n) (sym e))

  by_reader : (r : Refusal) → number_of r ≡ first (reader_rows b) → number_of r ≡ first (reader_rows b ++ rows)
  by_reader r e = sym (behind_first b rows ∙ ap (λ (n : ℕ). cond (eqb n 0) (first rows) n) (sym e) ∙ rw (not-zero r) refl)

-- what a call gives of the ops, it gives behind the reader
reads : {A : Type 0} (tell : A → Told) (stop : Refusal → A) (make : List ℕ → A) (rows : List ℕ → List Row)
    → ((r : Refusal) → tell (stop r) ≡ number_alone (number_of r)) → ((xs : List ℕ) → Gives (tell (make xs)) (rows xs))
    → (b : List ℕ) → Gives (tell (read_from stop make b (true_list b))) (behind_reader rows b)
reads tell stop make rows p q b = go (true_list b) (reader_number b)
  where
    go : (t : Answer Area) → refusal_of t ≡ first (reader_rows b) → Gives (tell (read_from stop make b t)) (reader_rows b ++ rows (ops_at b t))
    go (Ok got) e = like (past_reader b (rows (ops_in b got.at got.n)) e) (q (ops_in b got.at got.n))
    go (Err r) e = refusal (p r) (by_reader b (rows []) r e)

-- the same of a call with an output d, which it fills with `out` of the ops, and answers `done` of them
reads_into : {A : Type 0} (tell : A → Told) (stop : Refusal → A) → ((r : Refusal) → tell (stop r) ≡ number_alone (number_of r))
    → (d : List ℕ) (make : List ℕ → Outcome A) (rows : List ℕ → List Row) (done : List ℕ → A) (out : List ℕ → List ℕ)
    → ((xs : List ℕ) → GivesFilled tell (make xs) d (rows xs) (done xs) (out xs))
    → (b : List ℕ) → GivesFilled tell (read_from (stop_kept stop d) make b (true_list b)) d (behind_reader rows b) (done (held_ops b)) (out (held_ops b))
reads_into tell stop p d make rows done out q b = go (true_list b) (reader_number b)
  where
    go : (t : Answer Area) → refusal_of t ≡ first (reader_rows b)
        → GivesFilled tell (read_from (stop_kept stop d) make b t) d (reader_rows b ++ rows (ops_at b t)) (done (ops_at b t)) (out (ops_at b t))
    go (Ok got) e = like_filled tell (past_reader b (rows (ops_in b got.at got.n)) e) (q (ops_in b got.at got.n))
    go (Err r) e = kept_refusal tell (stop r) (p r) (by_reader b (rows []) r e) (not-zero r)

pub true_cigar_ops : (b d : List ℕ) → GivesFilled tell_count (true_ops b d) d (true_ops_rows b d) (Ok (length (held_ops b))) (held_ops b)
true_cigar_ops b d =
    reads_into tell_count Err (λ r. refl) d (λ xs. copied_ops xs d) _ (λ xs. Ok (length xs)) (λ xs. xs) (λ xs. last_row tell_count xs (Err NoRoom) _ refl refl) b

pub true_cigar_to_bytes_into : (b d : List ℕ) → GivesFilled tell_count (true_printed b d) d (true_print_rows b d) (Ok (length (text_of (held_ops b)))) (text_of (held_ops b))
true_cigar_to_bytes_into b d =
    reads_into tell_count Err (λ r. refl) d (λ xs. printed_ops xs d) _ (λ xs. Ok (length (text_of xs))) text_of
    (λ xs. kept_row tell_count (any_bad xs) (Err BadCode) 7 refl refl (last_row tell_count (text_of xs) (Err NoRoom) _ refl refl))
    b

pub true_cigar_lengths : (b : List ℕ) → Gives (tell_lengths (true_lengths b)) (true_lengths_rows b)
true_cigar_lengths b =
    reads tell_lengths Err list_lengths _ (λ r. refl) (λ xs. total_rows tell_lengths (λ x. lengths_with x xs) (sum_of ref_len xs) refl refl) b

pub true_unclipped_5prime_from_raw_bam : (b : List ℕ) → Gives (tell_unclipped (true_unclipped b)) (true_unclipped_rows b)
unfolding true_unclipped
true_unclipped_5prime_from_raw_bam b =
    row tell_unclipped (is_short b) (Err ShortRecord) _ 1 refl
    (row_unless tell_unclipped (is_unmapped (flags_of b)) (Ok Unclipped.Unmapped) _ refl
    (reads tell_unclipped Err (λ xs. unclipped_by xs (record { 0 = pos_of b }) (is_reverse (flags_of b))) _ (λ r. refl) (λ xs. unclipped-by xs (pos_of b) (is_reverse (flags_of b))) b))

true_clip : (b : List ℕ) (amount : ℕ) (start : Bool) (d : List ℕ) → GivesFilled tell_clipped (true_clipped b amount start d) d (true_clip_rows b amount start d)
    (given (length (clipped_ops (held_ops b) amount start)) (clipped_count (held_ops b) amount start)) (clipped_ops (held_ops b) amount start)
true_clip b amount start d =
    reads_into tell_clipped Err (λ r. refl) d (λ xs. clipped_into xs amount start d) _
    (λ xs. (given (length (clipped_ops xs amount start)) (clipped_count xs amount start))) (λ xs. clipped_ops xs amount start) (into_rows amount start d) b

module _ (b : List ℕ) (amount : ℕ) (d : List ℕ) where
  pub true_clip_cigar_start : GivesFilled tell_clipped (true_start b amount d) d (true_clip_rows b amount true d)
      (given (length (clipped_ops (held_ops b) amount true)) (clipped_count (held_ops b) amount true)) (clipped_ops (held_ops b) amount true)
  true_clip_cigar_start = true_clip b amount true d

  pub true_clip_cigar_end : GivesFilled tell_count (true_end b amount d) d (true_clip_rows b amount false d) (Ok (length (clipped_ops (held_ops b) amount false))) (clipped_ops (held_ops b) amount false)
  true_clip_cigar_end = uncounted_rows (true_clip b amount false d)

-- ---- lent lists

pub long_reference_length_from_cigar : (xs : List ℕ) → Gives (tell_int (long_ref_length xs)) (long_length_rows xs)
long_reference_length_from_cigar = reference_length_up_to most_long_ops

pub long_query_length_from_cigar : (xs : List ℕ) → Gives (tell_count (long_query_length xs)) (long_list_rows xs)
long_query_length_from_cigar = query-length-up-to most_long_ops

pub long_read_pos_at_ref_pos_raw : (xs : List ℕ) (start at : ℕ) (asked : Bool) → Gives (tell_found (long_looked xs start at asked)) (long_lookup_rows xs start)
long_read_pos_at_ref_pos_raw = read_pos_up_to most_long_ops

module _ (xs : List ℕ) (amount : ℕ) (d : List ℕ) where
  pub long_clip_cigar_start_raw : GivesFilled tell_clipped (long_start xs amount d) d (long_clip_rows xs amount true d)
      (given (length (clipped_ops xs amount true)) (clipped_count xs amount true)) (clipped_ops xs amount true)
  long_clip_cigar_start_raw = list_rows amount true d most_long_ops xs

  pub long_clip_cigar_end_raw : GivesFilled tell_count (long_end xs amount d) d (long_clip_rows xs amount false d) (Ok (length (clipped_ops xs amount false))) (clipped_ops xs amount false)
  long_clip_cigar_end_raw = uncounted_rows (list_rows amount false d most_long_ops xs)
