-- What a place is that was not refused: the plain sum, since each step on the way was in the range of an i32. And of what records the unclipped position is told, unmapped, and no ops.
use Prim.Native.Nat.{ℕ}
use Rattle.std.specs.Prelude.{Err, None, Ok, Option, Some}
use Rattle.answers.specs.Answer.{Answer}
use mathlib.Core.Path.{◌≡◌, refl, sym, ap, ◌∙◌}
use mathlib.Core.Bool.{Bool, true, false, cond, ◌||◌}
use mathlib.Core.List.{List, []}
use lib.IntN.{ℤ, pos, negsuc, ◌+ℤ◌, ◌-ℤ◌}
use lib.Dec.{eqb, leb, ltb}
use lib.ListN.{length}
use lib.Signed.{lt_z}
use borrow.Author.Tests.{leb-true, leb-false, le-ltb, lt-ltb}
use Rattle.lists.proofs.Absurd.{never, false_true}
use Rattle.signed.specs.Whole.{side_of, sum_at, checked, natural, Below, Within, Above}
use Rattle.sam.specs.Columns.{columns, refs}
use Rattle.sam.specs.Record.{is_short, pos_of, flags_of, is_unmapped, is_reverse, op_count_of, ops_start, ops_end, ops_in}
use Rattle.sam.proofs.LengthLaws.{reference_length}
use Rattle.oplist.specs.Ops.{record_ops}
use Rattle.oplist.specs.Few.{length_ops_in}
use Rattle.answers.specs.declared.Pos0.{Pos0}
use Rattle.answers.specs.declared.Pos1.{Pos1}
use Rattle.answers.specs.declared.Refusal.TheVariants.{ShortRecord}
use Rattle.length_rules.specs.Lengths.{checked_ref_length}
use Rattle.clip_run_rules.specs.Clips.{leading_clips, clips_after_reference}
use Rattle.ends_rules.specs.declared.Unclipped.{Unclipped}
use Rattle.ends_rules.specs.Sums.{both, summed}
use Rattle.ends_rules.specs.Tails.{greatest_run}
use Rattle.ends_rules.specs.Ends.{unclipped_start, provided, trailing_sum, unclipped_end, five_prime, to_place1, plus_one, has_no_ops, as_unclipped, unclipped_at, unclipped_of, alignment_start, end_at, alignment_end}

checked_is : (z y : ℤ) → checked z ≡ Some y → z ≡ y
unfolding checked side_of
checked_is z y e = go (lt_z z (negsuc 2147483647)) (lt_z (pos 2147483647) z) e
  where
    go : (s t : Bool) → sum_at (cond s Below (cond t Above (Within z))) ≡ Some y → z ≡ y
    go true t h = never (cc)
    go false true h = never (cc)
    go false false h = cc

-- the operands of a sum that was not refused
record Parts (f : ℤ → ℤ → ℤ) (a b : Option ℤ) (y : ℤ) : Type 0 where
  left : ℤ
  right : ℤ
  left_is : a ≡ Some left
  right_is : b ≡ Some right
  is : f left right ≡ y

parts : (f : ℤ → ℤ → ℤ) (a b : Option ℤ) (y : ℤ) → both f a b ≡ Some y → Parts f a b y
unfolding both
parts f (Some l) (Some r) y e = record { left = l; right = r; left_is = refl; right_is = refl; is = checked_is (f l r) y e }
parts f (Some l) None y e = never (cc)
parts f None b y e = never (cc)

number_is : (z y : ℤ) → Some z ≡ Some y → z ≡ y
number_is z y e = cc

joined : (f : ℤ → ℤ → ℤ) {a b c d y : ℤ} → a ≡ c → b ≡ d → f c d ≡ y → f a b ≡ y
joined f e g h = cc

provided_is : (s : Option ℤ) (z y : ℤ) → provided s (Some z) ≡ Some y → z ≡ y
provided_is (Some x) z y e = cc
provided_is None z y e = never (cc)

module _ (at : ℤ) (xs : List ℕ) (z : ℤ) where
  -- "forward less the leading S and H"
  pub start_is : unclipped_start at xs ≡ Some z → at -ℤ pos (leading_clips xs) ≡ z
  unfolding unclipped_start
  start_is e =
      let p = parts ◌-ℤ◌ _ _ z e in
      joined ◌-ℤ◌ (number_is at p.left p.left_is) (checked_is _ _ p.right_is) p.is

  -- "reverse plus reference length plus clips after the last reference op, less 1"; the reference length is the count of reference bases in the columns
  pub end_is : unclipped_end at xs ≡ Some z → at +ℤ pos (refs (columns xs)) +ℤ pos (clips_after_reference xs) -ℤ pos 1 ≡ z
  unfolding unclipped_end trailing_sum
  end_is e =
      let p = parts ◌-ℤ◌ _ _ z e in
      let q = parts ◌+ℤ◌ _ _ p.left p.left_is in
      let s = parts ◌+ℤ◌ _ _ q.left q.left_is in
      let b : pos (refs (columns xs)) ≡ s.right = ap pos (sym (reference_length xs)) ∙ checked_is _ _ s.right_is in
      let c : pos (clips_after_reference xs) ≡ q.right = provided_is (summed (greatest_run xs)) _ _ q.right_is in
      joined ◌-ℤ◌
      (joined ◌+ℤ◌ (joined ◌+ℤ◌ (number_is at s.left s.left_is) b s.is) c q.is)
      (number_is (pos 1) p.right p.right_is)
      p.is

-- ---- start and end of a record

-- the number of a place that was found
abbrev found : Answer (Option Pos1) → ℤ
found (Ok (Some p)) = p.0
found (Ok None) = pos 0
found (Err r) = pos 0

place_is : (s : Option ℤ) (p : Pos1) → to_place1 s ≡ Ok (Some p) → s ≡ Some p.0
place_is (Some z) p e = ap (λ (a : Answer (Option Pos1)). Some (found a)) e
place_is None p e = never (cc)

-- "0-based record positions and 1-based answers are kept apart": the same place counted from 1 is one more
pub plus_one_is : (p : Pos0) (z : ℤ) → plus_one p ≡ Some z → p.0 +ℤ pos 1 ≡ z
unfolding plus_one
plus_one_is p z e =
    let q = parts ◌+ℤ◌ _ _ z e in
    joined ◌+ℤ◌ (number_is p.0 q.left q.left_is) (number_is (pos 1) q.right q.right_is) q.is

module _ (b : List ℕ) (p : Pos1) where
  pub first-is : alignment_start b ≡ Ok (Some p) → pos_of b +ℤ pos 1 ≡ p.0
  unfolding alignment_start
  first-is e = go (is_short b) (lt_z (pos_of b) (pos 0)) e
    where
      at : Pos0
      at = record { 0 = pos_of b }

      go : (s t : Bool) → cond s (Err ShortRecord) (cond t (Ok None) (to_place1 (plus_one at))) ≡ Ok (Some p) → pos_of b +ℤ pos 1 ≡ p.0
      go true t h = never (cc)
      go false true h = never (cc)
      go false false h = plus_one_is at p.0 (place_is (plus_one at) p h)

  -- the last place is `pos`, counted from 0, plus the reference length: that counts it from 1
  last_at : (n : ℤ) → end_at (pos_of b) (Ok n) ≡ Ok (Some p) → pos_of b +ℤ n ≡ p.0
  last_at n e = go (eqb (natural n) 0) e
    where
      go : (t : Bool) → cond t (Ok None) (to_place1 (both ◌+ℤ◌ (Some (pos_of b)) (Some n))) ≡ Ok (Some p) → pos_of b +ℤ n ≡ p.0
      go true h = never (cc)
      go false h =
          let q = parts ◌+ℤ◌ (Some (pos_of b)) (Some n) p.0 (place_is _ p h) in
          joined ◌+ℤ◌ (number_is (pos_of b) q.left q.left_is) (number_is n q.right q.right_is) q.is

  pub last-is : (n : ℤ) → checked_ref_length b ≡ Ok n → alignment_end b ≡ Ok (Some p) → pos_of b +ℤ n ≡ p.0
  unfolding alignment_end
  last-is n l e = go (is_short b) (lt_z (pos_of b) (pos 0)) (rw l at e)
    where
      go : (s t : Bool) → cond s (Err ShortRecord) (cond t (Ok None) (end_at (pos_of b) (Ok n))) ≡ Ok (Some p) → pos_of b +ℤ n ≡ p.0
      go true t h = never (cc)
      go false true h = never (cc)
      go false false h = last_at n h

-- ---- the three answers of the unclipped position

-- "no ops, which an overrun area also gives": the record counts none, or its op area ends past it
pub no_ops_is : (b : List ℕ) → has_no_ops b ≡ (eqb (op_count_of b) 0 || ltb (length b) (ops_end b))
unfolding record_ops
no_ops_is b = go (leb (ops_end b) (length b)) refl
  where
    either : (t : Bool) → true ≡ (t || true)
    either true = refl
    either false = refl

    alone : (t : Bool) → t ≡ (t || false)
    alone true = refl
    alone false = refl

    go : (t : Bool) → leb (ops_end b) (length b) ≡ t → eqb (length (cond t (ops_in b (ops_start b) (op_count_of b)) [])) 0 ≡ (eqb (op_count_of b) 0 || ltb (length b) (ops_end b))
    go true e = rw (length_ops_in b (ops_start b) (op_count_of b), le-ltb (length b) (ops_end b) (leb-true (ops_end b) (length b) e)) (alone (eqb (op_count_of b) 0))
    go false e = rw (lt-ltb (length b) (ops_end b) (leb-false (ops_end b) (length b) e)) (either (eqb (op_count_of b) 0))

-- the sums come to a position or to 4, and to neither of the other two answers
abbrev is_summed : Answer Unclipped → Bool
is_summed (Ok (Unclipped.At p)) = true
is_summed (Ok Unclipped.Unmapped) = false
is_summed (Ok Unclipped.NoOps) = false
is_summed (Err r) = true

sums_end : (s : Option ℤ) → is_summed (as_unclipped s) ≡ true
sums_end (Some z) = refl
sums_end None = refl

sums_only : (s : Option ℤ) (reverse : Bool) (xs : List ℕ) → is_summed (unclipped_at s reverse xs) ≡ true
sums_only (Some at) reverse xs = sums_end (five_prime reverse at xs)
sums_only None reverse xs = refl

position-is : (s : Option ℤ) (p : Pos1) → as_unclipped s ≡ (Ok (Unclipped.At p)) → s ≡ Some p.0
position-is (Some z) p e = let f : record { 0 = z } ≡ p = cc in ap (λ (q : Pos1). Some q.0) f
position-is None p e = never (cc)

module _ (b : List ℕ) where
  abbrev rest : Answer Unclipped
  rest = unclipped_at (plus_one (record { 0 = pos_of b })) (is_reverse (flags_of b)) (record_ops b)

  rest_summed : is_summed rest ≡ true
  rest_summed = sums_only (plus_one (record { 0 = pos_of b })) (is_reverse (flags_of b)) (record_ops b)

  pub unmapped_only : unclipped_of b ≡ (Ok Unclipped.Unmapped) → (is_short b ≡ false) × (is_unmapped (flags_of b) ≡ true)
  unfolding unclipped_of
  unmapped_only e = go (is_short b) refl (is_unmapped (flags_of b)) refl (has_no_ops b) e
    where
      go : (s : Bool) → is_short b ≡ s → (t : Bool) → is_unmapped (flags_of b) ≡ t → (u : Bool) → cond s (Err ShortRecord) (cond t (Ok Unclipped.Unmapped) (cond u (Ok Unclipped.NoOps) rest)) ≡ (Ok Unclipped.Unmapped)
          → (is_short b ≡ false) × (is_unmapped (flags_of b) ≡ true)
      go true p t q u h = never (cc)
      go false p true q u h = (p, q)
      go false p false q true h = never (cc)
      go false p false q false h = false_true (sym (ap is_summed h) ∙ rest_summed)

  pub no_ops_only : unclipped_of b ≡ (Ok Unclipped.NoOps) → (is_short b ≡ false) × (is_unmapped (flags_of b) ≡ false) × (has_no_ops b ≡ true)
  unfolding unclipped_of
  no_ops_only e = go (is_short b) refl (is_unmapped (flags_of b)) refl (has_no_ops b) refl e
    where
      go : (s : Bool) → is_short b ≡ s → (t : Bool) → is_unmapped (flags_of b) ≡ t → (u : Bool) → has_no_ops b ≡ u → cond s (Err ShortRecord) (cond t (Ok Unclipped.Unmapped) (cond u (Ok Unclipped.NoOps) rest)) ≡ (Ok Unclipped.NoOps)
          → (is_short b ≡ false) × (is_unmapped (flags_of b) ≡ false) × (has_no_ops b ≡ true)
      go true p t q u r h = never (cc)
      go false p true q u r h = never (cc)
      go false p false q true r h = (p, q, r)
      go false p false q false r h = false_true (sym (ap is_summed h) ∙ rest_summed)

  module _ (p : Pos1) where
    pub position-only : unclipped_of b ≡ (Ok (Unclipped.At p)) → (is_unmapped (flags_of b) ≡ false) × (has_no_ops b ≡ false) × (rest ≡ (Ok (Unclipped.At p)))
    unfolding unclipped_of
    position-only e = go (is_short b) (is_unmapped (flags_of b)) refl (has_no_ops b) refl e
      where
        go : (s t : Bool) → is_unmapped (flags_of b) ≡ t → (u : Bool) → has_no_ops b ≡ u → cond s (Err ShortRecord) (cond t (Ok Unclipped.Unmapped) (cond u (Ok Unclipped.NoOps) rest)) ≡ (Ok (Unclipped.At p))
            → (is_unmapped (flags_of b) ≡ false) × (has_no_ops b ≡ false) × (rest ≡ (Ok (Unclipped.At p)))
        go true t q u r h = never (cc)
        go false true q u r h = never (cc)
        go false false q true r h = never (cc)
        go false false q false r h = (q, r, h)

    -- "from `pos` + 1"
    from_next : (s : Option ℤ) → plus_one (record { 0 = pos_of b }) ≡ s → unclipped_at s (is_reverse (flags_of b)) (record_ops b) ≡ (Ok (Unclipped.At p))
        → five_prime (is_reverse (flags_of b)) (pos_of b +ℤ pos 1) (record_ops b) ≡ Some p.0
    from_next (Some z) e h = ap (λ (y : ℤ). five_prime (is_reverse (flags_of b)) y (record_ops b)) (plus_one_is (record { 0 = pos_of b }) z e) ∙ position-is _ p h
    from_next None e h = never (cc)

    pub forward-is : is_reverse (flags_of b) ≡ false → unclipped_of b ≡ (Ok (Unclipped.At p)) → pos_of b +ℤ pos 1 -ℤ pos (leading_clips (record_ops b)) ≡ p.0
    unfolding five_prime
    forward-is r e = start_is _ _ p.0 (rw r at (from_next _ refl (position-only e).2))

    pub reverse_is : is_reverse (flags_of b) ≡ true → unclipped_of b ≡ (Ok (Unclipped.At p)) → pos_of b +ℤ pos 1 +ℤ pos (refs (columns (record_ops b))) +ℤ pos (clips_after_reference (record_ops b)) -ℤ pos 1 ≡ p.0
    unfolding five_prime
    reverse_is r e = end_is _ _ p.0 (rw r at (from_next _ refl (position-only e).2))
