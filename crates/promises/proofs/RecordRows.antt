-- The refusal table of clipped records: each test of the definition is a row, in the same order; the two sums of 4 are one.
use Prim.Native.Nat.{ℕ, ◌≤◌}
use Rattle.std.specs.Prelude.{Err, Ok}
use Rattle.answers.specs.Answer.{Answer}
use mathlib.Core.Path.{◌≡◌, refl, sym, ap, subst, ◌∙◌}
use mathlib.Core.Bool.{Bool, true, false, cond, not, ◌||◌, ◌&&◌}
use mathlib.Core.List.{List, [], ◌∷◌}
use native.Mathlib.Omega.{arith}
use borrow.Author.Tests.{le-ltb, ltb-false}
use lib.Dec.{ltb, eqb}
use lib.IntN.{ℤ, pos, negsuc, ◌+ℤ◌, ◌-ℤ◌}
use lib.ListN.{length}
use lib.Signed.{lt_z}
use Rattle.lists.specs.Lists.{sum_of}
use Rattle.signed.specs.Whole.{checked, side_of, sum_at, Below, Within, Above}
use Rattle.sam.specs.Op.{len_of, ref_len, query_len}
use Rattle.sam.specs.Record.{is_short, seq_len_of, tags_start}
use Rattle.oplist.specs.Ops.{record_ops}
use Rattle.answers.specs.Answers.{tell_count, number_of}
use Rattle.answers.specs.declared.Refusal.{Refusal}
use Rattle.answers.specs.declared.Refusal.TheVariants.{ShortRecord, AreaOverrun, Overflow, NoRoom, TooLong, AmountBeyond, QueryDiffers, CountOver}
use Rattle.length_rules.specs.Lengths.{as_int}
use Rattle.bin_rules.specs.Bin.{bin_to, reg2bin, span_of, bin_up_to, bin_from}
use Rattle.clip_rules.specs.Answer.{given, clippable, is_beyond, tell_clipped}
use Rattle.clip_rules.specs.declared.Clipped.{Clipped}
use Rattle.record_rules.specs.Clipping.{most_record_ops, differs, new_len, first_kept, start_count, bin_at, Fate, Refuses, Becomes, binned, placed, counted, clipped_fate, put_into, written, clipped_record_start, clipped_record_end}
use Rattle.record_rules.proofs.ClippedLaws.{clipped_total}
use Rattle.record_rules.proofs.PlanLaws.{refs_small}
use Rattle.promises.specs.Table.{Row, ◌when◌, GivesFilled}
use Rattle.promises.specs.Rows.{outside, any_outside, no_room}
use Rattle.promises.specs.RecordRows.{left_ops, moved_place, bin_in, change, clipped_record, end_of, over_moved, count_over, query_differs, clipped_record_rows}
use Rattle.promises.proofs.RowLaws.{kept_refusal, like_filled, last_row}
use Rattle.promises.proofs.ClipRows.{uncounted_rows}

-- ---- 4 of the bin

-- a bin is refused exactly where a test holds, and by 4
abbrev Agrees : Answer ℕ → Bool → Type 0
Agrees (Ok n) t = t ≡ false
Agrees (Err r) t = (r ≡ Overflow) × (t ≡ true)

to_agrees : (z y : ℤ) → Agrees (bin_to z (checked y)) (outside y || false)
unfolding bin_to checked side_of
to_agrees z y = by_side (lt_z y (negsuc 2147483647)) (lt_z (pos 2147483647) y)
  where
    by_side : (low high : Bool) → Agrees (bin_to z (sum_at (cond low Below (cond high Above (Within y))))) ((low || high) || false)
    by_side true high = (refl, refl)
    by_side false true = (refl, refl)
    by_side false false = refl

up_agrees : (z end : ℤ) → Agrees (bin_up_to z (checked end)) (any_outside (end ∷ (end -ℤ pos 1) ∷ []))
unfolding bin_up_to reg2bin checked side_of
up_agrees z end = by_side (lt_z end (negsuc 2147483647)) (lt_z (pos 2147483647) end)
  where
    by_side : (low high : Bool) → Agrees (bin_up_to z (sum_at (cond low Below (cond high Above (Within end))))) ((low || high) || any_outside ((end -ℤ pos 1) ∷ []))
    by_side true high = (refl, refl)
    by_side false true = (refl, refl)
    by_side false false = to_agrees z (end -ℤ pos 1)

bin_agrees : (z : ℤ) (refs : ℕ) → refs ≤ 268435455 → Agrees (bin_at z refs) (not (lt_z z (pos 0)) && any_outside ((z +ℤ span_of (pos refs)) ∷ ((z +ℤ span_of (pos refs)) -ℤ pos 1) ∷ []))
unfolding bin_at bin_from as_int
bin_agrees z refs h = simp (le-ltb 2147483647 refs (omega arith)) (by_place (lt_z z (pos 0)))
  where
    by_place : (t : Bool) → Agrees (cond t (Ok 4680) (bin_up_to z (checked (z +ℤ span_of (pos refs))))) (not t && any_outside ((z +ℤ span_of (pos refs)) ∷ ((z +ℤ span_of (pos refs)) -ℤ pos 1) ∷ []))
    by_place true = refl
    by_place false = up_agrees z (z +ℤ span_of (pos refs))

-- ---- a fate's tests are rows

module _ (b : List ℕ) (amount : ℕ) (start : Bool) (d : List ℕ) where
  abbrev ys : List ℕ
  ys = left_ops b amount start

  abbrev new : List ℕ
  new = clipped_record b amount start

  abbrev done : Answer Clipped
  done = given (length new) (start_count (record_ops b) amount start)

  -- a fate gives rows, and past them the record
  abbrev FateGives : Fate → List Row → Type 0
  FateGives f rows = GivesFilled tell_clipped (written b f d) d rows done new

  fate_row : (t : Bool) (r : Refusal) (n : ℕ) (f : Fate) {rows : List Row} → number_of r ≡ n → eqb n 0 ≡ false → (t ≡ false → FateGives f rows) → FateGives (cond t (Refuses r) f) ((n when t) ∷ rows)
  unfolding written
  fate_row true r n f e some q = kept_refusal tell_clipped (Err r) (ap (λ (k : ℕ). record { number = k; values = [] }) e) refl some
  fate_row false r n f e some q = like_filled tell_clipped refl (q refl)

  room_row : FateGives (Becomes (change b amount start)) (no_room d (length new) ∷ [])
  unfolding written put_into
  room_row = last_row tell_clipped new (Err NoRoom) done refl refl

  -- 4
  bin_row : (z : ℤ) → z ≡ moved_place b amount start → (n : Answer ℕ) → bin_at z (sum_of ref_len ys) ≡ n → (t : Bool) → Agrees n t
      → FateGives (binned b ys start (start_count (record_ops b) amount start) z n) ((4 when (false || t)) ∷ no_room d (length new) ∷ [])
  unfolding binned written
  bin_row z e (Ok m) q t a =
      let p : m ≡ bin_in (bin_at (moved_place b amount start) (sum_of ref_len ys)) = sym (ap bin_in (ap (λ (y : ℤ). bin_at y (sum_of ref_len ys)) (sym e) ∙ q)) in
      subst (λ (u : Bool). FateGives (Becomes (record { ops = ys; place = z; bin = m; len = new_len b ys; from = first_kept b start (new_len b ys); count = start_count (record_ops b) amount start })) ((4 when (false || u)) ∷ no_room d (length new) ∷ [])) (sym a)
      (like_filled tell_clipped refl
      (subst (λ (f : Fate). FateGives f (no_room d (length new) ∷ []))
      (ap (λ (y : ℤ). Becomes (record { ops = ys; place = y; bin = bin_in (bin_at (moved_place b amount start) (sum_of ref_len ys)); len = new_len b ys; from = first_kept b start (new_len b ys); count = start_count (record_ops b) amount start })) (sym e)
      ∙ ap (λ (k : ℕ). Becomes (record { ops = ys; place = z; bin = k; len = new_len b ys; from = first_kept b start (new_len b ys); count = start_count (record_ops b) amount start })) (sym p))
      room_row))
  bin_row z e (Err r) q t a =
      subst (λ (u : Bool). FateGives (Refuses r) ((4 when (false || u)) ∷ no_room d (length new) ∷ [])) (sym a.1)
      (subst (λ (s : Refusal). FateGives (Refuses s) ((4 when true) ∷ no_room d (length new) ∷ [])) (sym a.0)
      (kept_refusal tell_clipped (Err Overflow) refl refl refl))

  place_row : sum_of len_of (record_ops b) ≤ 268435455
      → FateGives (placed b ys start (start_count (record_ops b) amount start) (checked (moved_place b amount start))) (over_moved (moved_place b amount start) ys ∷ no_room d (length new) ∷ [])
  unfolding placed written checked side_of
  place_row s = by_side (lt_z z (negsuc 2147483647)) (lt_z (pos 2147483647) z)
    where
      z : ℤ
      z = moved_place b amount start

      test : Bool
      test = not (lt_z z (pos 0)) && any_outside (end_of z ys ∷ (end_of z ys -ℤ pos 1) ∷ [])

      small : sum_of ref_len ys ≤ 268435455
      small = let r = refs_small ys in let t = clipped_total (record_ops b) amount start in omega arith

      by_side : (low high : Bool)
          → FateGives (placed b ys start (start_count (record_ops b) amount start) (sum_at (cond low Below (cond high Above (Within z))))) ((4 when ((low || high) || test)) ∷ no_room d (length new) ∷ [])
      by_side true high = kept_refusal tell_clipped (Err Overflow) refl refl refl
      by_side false true = kept_refusal tell_clipped (Err Overflow) refl refl refl
      by_side false false = bin_row z refl (bin_at z (sum_of ref_len ys)) refl test (bin_agrees z (sum_of ref_len ys) small)

  count_rows : sum_of len_of (record_ops b) ≤ 268435455
      → FateGives (counted b ys start (start_count (record_ops b) amount start)) (query_differs b ∷ count_over ys ∷ over_moved (moved_place b amount start) ys ∷ no_room d (length new) ∷ [])
  unfolding counted differs
  count_rows s =
      fate_row (differs (seq_len_of b) (sum_of query_len (record_ops b))) QueryDiffers 15 _ refl refl
      (λ e. fate_row (ltb most_record_ops (length ys)) CountOver 16 _ refl refl (λ f. place_row s))

  pub fate_rows : FateGives (clipped_fate b amount start) (clipped_record_rows b amount start d)
  unfolding clipped_fate is_beyond clippable
  fate_rows =
      fate_row (is_short b) ShortRecord 1 _ refl refl
      (λ e. fate_row (ltb (length b) (tags_start b)) AreaOverrun 2 _ refl refl
      (λ f. fate_row (ltb 268435455 (sum_of len_of (record_ops b))) TooLong 8 _ refl refl
      (λ g. fate_row (is_beyond (record_ops b) amount start) AmountBeyond 19 _ refl refl (λ h. count_rows (ltb-false 268435455 (sum_of len_of (record_ops b)) g)))))

-- ---- the two calls

module _ (b : List ℕ) (amount : ℕ) (d : List ℕ) where
  pub clip_record_start : GivesFilled tell_clipped (clipped_record_start b amount d) d (clipped_record_rows b amount true d)
      (given (length (clipped_record b amount true)) (start_count (record_ops b) amount true)) (clipped_record b amount true)
  clip_record_start = fate_rows b amount true d

  pub clip_record_end : GivesFilled tell_count (clipped_record_end b amount d) d (clipped_record_rows b amount false d) (Ok (length (clipped_record b amount false))) (clipped_record b amount false)
  clip_record_end = uncounted_rows (fate_rows b amount false d)
