-- The cases of the calls on a record of at least 32 bytes, by their tests.
use Prim.Native.Nat.{ℕ, ◌≤◌}
use Rattle.std.specs.Prelude.{Err, None, Ok, Option, Some}
use mathlib.Core.Path.{◌≡◌, sym, ap, ◌∙◌}
use mathlib.Core.Bool.{Bool, true, false}
use mathlib.Core.List.{List}
use borrow.Author.Tests.{le-ltb, eq-eqb, ne_eqb}
use lib.IntN.{ℤ, pos}
use lib.ListN.{length}
use lib.Signed.{lt_z}
use Rattle.lists.specs.Lists.{sum_of}
use Rattle.sam.specs.Op.{ref_len}
use Rattle.sam.specs.Record.{pos_of, flags_of, is_unmapped, is_reverse}
use Rattle.oplist.specs.Ops.{record_ops}
use Rattle.length_rules.specs.Lengths.{checked_ref_length}
use Rattle.clip_run_rules.specs.Clips.{leading_clips, clips_after_reference}
use Rattle.answers.specs.declared.Pos0.{Pos0}
use Rattle.answers.specs.declared.Refusal.{Refusal}
use Rattle.ends_rules.specs.declared.Unclipped.TheVariants.{Unmapped, NoOps}
use Rattle.ends_rules.specs.declared.Tail.{Tail}
use Rattle.ends_rules.specs.Sums.{◌⊕◌, ◌⊖◌, summed}
use Rattle.ends_rules.specs.Tails.{greatest_run}
use Rattle.ends_rules.specs.Ends.{provided, trailing_sum, unclipped_start, unclipped_end, to_place0, plus_one, one_based, five_prime, has_no_ops, unclipped_at, unclipped_by, unclipped_of, unclipped_from, alignment_start, end_at, alignment_end}

module _ (b : List ℕ) (h : 32 ≤ length b) where
  pub start_none : lt_z (pos_of b) (pos 0) ≡ true → (Ok None) ≡ alignment_start b
  unfolding alignment_start
  start_none t = simp (le-ltb (length b) 32 h, t)

  pub start_at : lt_z (pos_of b) (pos 0) ≡ false → one_based (record { 0 = pos_of b }) ≡ alignment_start b
  unfolding alignment_start
  start_at t = simp (le-ltb (length b) 32 h, t)

  pub end_none : lt_z (pos_of b) (pos 0) ≡ true → (Ok None) ≡ alignment_end b
  unfolding alignment_end
  end_none t = simp (le-ltb (length b) 32 h, t)

  pub end-at : lt_z (pos_of b) (pos 0) ≡ false → end_at (pos_of b) (checked_ref_length b) ≡ alignment_end b
  unfolding alignment_end
  end-at t = simp (le-ltb (length b) 32 h, t)

  -- a record whose length is refused has no end
  pub no_end : (r : Refusal) → lt_z (pos_of b) (pos 0) ≡ false → checked_ref_length b ≡ Err r → alignment_end b ≡ Err r
  no_end r t e = sym (end-at t) ∙ rw e

  pub is-unmapped : is_unmapped (flags_of b) ≡ true → (Ok Unmapped) ≡ unclipped_of b
  unfolding unclipped_of
  is-unmapped t = simp (le-ltb (length b) 32 h, t)

  pub no_ops : is_unmapped (flags_of b) ≡ false → has_no_ops b ≡ true → (Ok NoOps) ≡ unclipped_of b
  unfolding unclipped_of
  no_ops t u = simp (le-ltb (length b) 32 h, t, u)

  pub is_mapped : is_unmapped (flags_of b) ≡ false → unclipped_by (record_ops b) (record { 0 = pos_of b }) (is_reverse (flags_of b)) ≡ unclipped_of b
  unfolding unclipped_of
  is_mapped t = simp (le-ltb (length b) 32 h, t)

  pub from_given : (p : Pos0) (reverse : Bool) → has_no_ops b ≡ true → Ok p ≡ unclipped_from b p reverse
  unfolding unclipped_from
  from_given p reverse t = simp (le-ltb (length b) 32 h, t)

  pub from_placed : (p : Pos0) (reverse : Bool) → has_no_ops b ≡ false → to_place0 (five_prime reverse p.0 (record_ops b)) ≡ unclipped_from b p reverse
  unfolding unclipped_from
  from_placed p reverse t = simp (le-ltb (length b) 32 h, t)

-- no op at all, from the count of a record's list
pub none_left : (b xs : List ℕ) (n : ℕ) → n ≡ length xs → xs ≡ record_ops b → n ≡ 0 → has_no_ops b ≡ true
none_left b xs n e f g = eq-eqb _ 0 (ap length (sym f) ∙ sym e ∙ g)

pub some_left : (b xs : List ℕ) (n : ℕ) → n ≡ length xs → xs ≡ record_ops b → (n ≡ 0 → ⊥) → has_no_ops b ≡ false
some_left b xs n e f g = ne_eqb _ 0 (λ z. g (e ∙ ap length f ∙ z))

-- of an op list that has ops: a place from the next of the given one
module _ (xs : List ℕ) (p : Pos0) (reverse : Bool) (n : ℕ) (e : n ≡ length xs) where
  pub placed_by : (n ≡ 0 → ⊥) → (s : Option ℤ) → s ≡ plus_one p → unclipped_at s reverse xs ≡ unclipped_by xs p reverse
  placed_by z s f = simp (ne_eqb (length xs) 0 (λ w. z (e ∙ w)), f)

-- the 5' end by the strand, from what the walk to it has met
module _ (at : ℤ) (xs : List ℕ) where
  pub forward : (t : Bool) (clips : ℕ) → t ≡ false → clips ≡ leading_clips xs → Some at ⊖ summed clips ≡ five_prime t at xs
  unfolding five_prime unclipped_start
  forward t clips f c = simp (f, c)

  pub backward : (t : Bool) (w : Tail) → t ≡ true → w.refs ≡ sum_of ref_len xs → w.clips ≡ clips_after_reference xs → w.most ≡ greatest_run xs → Some at ⊕ summed w.refs ⊕ provided (summed w.most) (Some (pos w.clips)) ⊖ Some (pos 1) ≡ five_prime t at xs
  unfolding five_prime unclipped_end trailing_sum
  backward t w f r c m = simp (f, r, c, m)
