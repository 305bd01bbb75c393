-- The refusal table of the ends and of lookup: each test of a definition is a row, and each checked sum one of those that row 4 names.
use Prim.Native.Nat.{ℕ, ◌-◌}
use Rattle.std.specs.Prelude.{Err, None, Ok, Option, Some}
use Rattle.answers.specs.Answer.{Answer}
use mathlib.Core.Path.{◌≡◌, refl}
use mathlib.Core.Bool.{Bool, true, false, cond, not}
use mathlib.Core.List.{List, [], ◌∷◌}
use lib.IntN.{ℤ, pos, ◌+ℤ◌, ◌-ℤ◌}
use lib.ListN.{length}
use lib.Dec.{ltb, eqb}
use lib.Signed.{lt_z}
use Rattle.lists.specs.Lists.{sum_of}
use Rattle.sam.specs.Columns.{Over, Base, Gap, Off}
use Rattle.sam.specs.Op.{ref_len}
use Rattle.sam.specs.Record.{pos_of, flags_of, is_unmapped, is_reverse, is_short}
use Rattle.clip_run_rules.specs.Clips.{leading_clips, clips_after_reference}
use Rattle.oplist.specs.Ops.{most_ops, record_ops}
use Rattle.answers.specs.Answers.{Told, tell_place0, tell_place1}
use Rattle.answers.specs.declared.Pos0.{Pos0}
use Rattle.answers.specs.declared.Refusal.TheVariants.{ShortRecord, TooManyOps, BadStart}
use Rattle.ends_rules.specs.Sums.{both, ◌⊕◌, ◌⊖◌}
use Rattle.ends_rules.specs.Tails.{greatest_run}
use Rattle.ends_rules.specs.Ends.{provided, trailing_sum, unclipped_start, unclipped_end, five_prime, to_place0, to_place1, plus_one, has_no_ops, as_unclipped, unclipped_at, unclipped_by, unclipped_of, tell_unclipped, unclipped_from, alignment_start, end_at, alignment_end}
use Rattle.lookup_rules.specs.Lookup.{look, read_over, lookup_up_to, counted, looked_up_to, looked, tell_found}
use Rattle.lookup_rules.specs.Examined.{examined}
use Rattle.promises.specs.Table.{◌when◌, only, Gives}
use Rattle.promises.specs.Rows.{over, refs_of, end_sums, place_rows, unclipped_rows, unclipped_from_rows, start_rows, end_rows, bad_start, lookup_rows}
use Rattle.promises.proofs.RowLaws.{number_alone, answer, row, row-past, row_either, row_unless, row_sum}
use Rattle.promises.proofs.LengthRows.{passes_on, length-rows}
use Rattle.ends_rules.specs.declared.Unclipped.TheVariants as Unclipped

module _ {A : Type 0} (tell : A → Told) (to : Option ℤ → A) (stops : tell (to None) ≡ number_alone 4) (goes : (z : ℤ) → (tell (to (Some z))).number ≡ 0) where
  -- the sums of an unclipped end
  end-sums : (reverse : Bool) (at : ℤ) (xs : List ℕ) → Gives (tell (to (five_prime reverse at xs))) (over (end_sums reverse at xs) ∷ [])
  unfolding five_prime unclipped_start unclipped_end trailing_sum both
  end-sums false at xs =
      row_sum tell (λ s. to (Some at ⊖ s)) clips ((at -ℤ clips) ∷ []) stops
      (row_sum tell to (at -ℤ clips) [] stops (answer (goes (at -ℤ clips)) refl))
    where
      clips : ℤ
      clips = pos (leading_clips xs)
  end-sums true at xs =
      row_sum tell (λ s. to (Some at ⊕ s ⊕ trailing_sum xs ⊖ Some (pos 1))) refs (with-refs ∷ most ∷ with-clips ∷ last ∷ []) stops
      (row_sum tell (λ s. to (s ⊕ trailing_sum xs ⊖ Some (pos 1))) with-refs (most ∷ with-clips ∷ last ∷ []) stops
      (row_sum tell (λ s. to (Some with-refs ⊕ provided s (Some clips) ⊖ Some (pos 1))) most (with-clips ∷ last ∷ []) stops
      (row_sum tell (λ s. to (s ⊖ Some (pos 1))) with-clips (last ∷ []) stops
      (row_sum tell to last [] stops (answer (goes last) refl)))))
    where
      refs : ℤ
      refs = pos (sum_of ref_len xs)

      clips : ℤ
      clips = pos (clips_after_reference xs)

      most : ℤ
      most = pos (greatest_run xs)

      with-refs : ℤ
      with-refs = at +ℤ refs

      with-clips : ℤ
      with-clips = at +ℤ refs +ℤ clips

      last : ℤ
      last = at +ℤ refs +ℤ clips -ℤ pos 1

-- of an op list that is aligned at a place
pub unclipped-by : (xs : List ℕ) (p : ℤ) (reverse : Bool) → Gives (tell_unclipped (unclipped_by xs (record { 0 = p }) reverse)) (place_rows xs p reverse)
unfolding plus_one both
unclipped-by xs p reverse =
    row_unless tell_unclipped (eqb (length xs) 0) (Ok Unclipped.NoOps) _ refl
    (row_sum tell_unclipped (λ s. unclipped_at s reverse xs) (p +ℤ pos 1) (end_sums reverse (p +ℤ pos 1) xs) refl
    (end-sums tell_unclipped as_unclipped refl (λ z. refl) reverse (p +ℤ pos 1) xs))

pub unclipped_5prime_from_raw_bam : (b : List ℕ) → Gives (tell_unclipped (unclipped_of b)) (unclipped_rows b)
unfolding unclipped_of
unclipped_5prime_from_raw_bam b =
    row tell_unclipped (is_short b) (Err ShortRecord) _ 1 refl
    (row_unless tell_unclipped (is_unmapped (flags_of b)) (Ok Unclipped.Unmapped) _ refl
    (unclipped-by (record_ops b) (pos_of b) (is_reverse (flags_of b))))

pub unclipped_5prime_raw : (b : List ℕ) (p : Pos0) (reverse : Bool) → Gives (tell_place0 (unclipped_from b p reverse)) (unclipped_from_rows b p.0 reverse)
unfolding unclipped_from
unclipped_5prime_raw b p reverse =
    row tell_place0 (is_short b) (Err ShortRecord) _ 1 refl
    (row_unless tell_place0 (has_no_ops b) (Ok p) _ refl
    (end-sums tell_place0 to_place0 refl (λ z. refl) reverse p.0 (record_ops b)))

pub alignment_start_from_raw : (b : List ℕ) → Gives (tell_place1 (alignment_start b)) (start_rows b)
unfolding alignment_start plus_one both
alignment_start_from_raw b =
    row tell_place1 (is_short b) (Err ShortRecord) _ 1 refl
    (row_unless tell_place1 (lt_z (pos_of b) (pos 0)) (Ok None) _ refl
    (row_sum tell_place1 to_place1 (pos_of b +ℤ pos 1) [] refl (answer refl refl)))

pub alignment_end_from_raw : (b : List ℕ) → Gives (tell_place1 (alignment_end b)) (end_rows b)
unfolding alignment_end both
alignment_end_from_raw b =
    row-past tell_place1 (is_short b) (Err ShortRecord) _ 1 refl (λ l.
    row_unless tell_place1 (lt_z (pos_of b) (pos 0)) (Ok None) _ refl
    (length-rows _ (passes_on Err tell_place1 (end_at (pos_of b)) (λ r. refl)) b l (λ n. only (not none) (over (end ∷ []) ∷ []))
    (row_unless tell_place1 none (Ok None) _ refl (row_sum tell_place1 to_place1 end [] refl (answer refl refl)))))
  where
    none : Bool
    none = eqb (sum_of ref_len (record_ops b)) 0

    end : ℤ
    end = pos_of b +ℤ refs_of b

-- of a list of at most `limit` ops
pub read_pos_up_to : (limit : ℕ) (xs : List ℕ) (start at : ℕ) (asked : Bool) → Gives (tell_found (looked_up_to limit xs start at asked)) ((3 when ltb limit (length xs)) ∷ bad_start start ∷ [])
unfolding looked_up_to lookup_up_to
read_pos_up_to limit xs start at asked =
    row told (ltb limit (length xs)) (Err TooManyOps) _ 3 refl
    (row_either told (ltb start 1) (ltb 2147483648 start) (Err BadStart) _ 9 refl
    (never (ltb at start) (look xs (at - start)).before asked (look xs (at - start)).over))
  where
    told : Answer (Option ℕ) → Told
    told a = tell_found (counted a (examined xs start at))

    never : (t : Bool) (n : ℕ) (asked : Bool) (o : Over) → Gives (told (cond t (Ok None) (read_over asked n o))) []
    never true n asked o = answer refl refl
    never false n asked Base = answer refl refl
    never false n true Gap = answer refl refl
    never false n false Gap = answer refl refl
    never false n asked Off = answer refl refl

pub read_pos_at_ref_pos_raw : (xs : List ℕ) (start at : ℕ) (asked : Bool) → Gives (tell_found (looked xs start at asked)) (lookup_rows xs start)
read_pos_at_ref_pos_raw = read_pos_up_to most_ops
