-- The tests of each pair rule, one by one, as the definitions have them; f is a record's flag, as it was read.
use Prim.Native.Nat.{ℕ, ◌+◌, ◌<◌, ◌≤◌}
use Rattle.std.specs.Prelude.{Ok, T}
use Rattle.answers.specs.Answer.{Answer}
use mathlib.Core.Path.{◌≡◌, refl, sym, ap, ◌∙◌, subst}
use mathlib.Core.Bool.{beq, Bool, true, false, cond, not, xor, ◌&&◌}
use mathlib.Core.List.{List}
use native.Mathlib.Omega.{arith}
use lib.IntN.{ℤ, pos, ◌+ℤ◌}
use lib.Signed.{le_z}
use mir.Syntax.{w32}
use mir.Val.{SFits}
use Rattle.lists.proofs.Absurd.{false_true}
use Rattle.signed.specs.Equal.{eqℤ}
use Rattle.signed.specs.Whole.{raised}
use Rattle.signed.proofs.Halves.{up, dn, plus, minus, leℤ, gtℤ, raise_fact}
use Rattle.sam.specs.Record.{ref_id_of, flags_of, mate_ref_id_of, is_paired, is_reverse, is_mate_reverse}
use Rattle.pairs_rules.specs.Pairs.{both_mapped, is_opposite, start_of, last_of, mate_starts_before, fr_by, is_fr, are_opposite, is_primary_fr}

-- a test that both failed and held
pub refuted : {A : Type 0} → false ≡ true → A
refuted e = absurd (subst T (sym e) tt)

-- two answers that differ, as the code tests them
pub differ_is : (a b : Bool) → not (beq a b) ≡ xor a b
unfolding xor
differ_is true true = refl
differ_is true false = refl
differ_is false true = refl
differ_is false false = refl

module _ (b : List ℕ) (f : ℕ) (e : f ≡ flags_of b) where
  pub strands : (r x y : Bool) → is_paired f ≡ true → both_mapped f ≡ true → eqℤ (ref_id_of b) (mate_ref_id_of b) ≡ true → x ≡ is_reverse f → y ≡ is_mate_reverse f
      → r ≡ xor x y → r ≡ is_opposite b
  unfolding is_opposite
  strands r x y p q s t u v = simp (sym e, p, q, s, sym t, sym u) v

  pub fr_forward : (forward : Bool) → is_opposite b ≡ true → is_reverse f ≡ false → Ok forward ≡ fr_by forward b
  unfolding fr_by
  fr_forward forward o p = simp (o, sym e, p)

pub fr_reverse : (b : List ℕ) → is_opposite b ≡ true → is_reverse (flags_of b) ≡ true → (forward : Bool) → mate_starts_before b ≡ fr_by forward b
unfolding fr_by
fr_reverse b o p forward = simp (o, p)

pub not_fr : (forward : Bool) (b : List ℕ) → is_opposite b ≡ false → Ok false ≡ fr_by forward b
unfolding fr_by
not_fr forward b o = simp o

-- ---- two records

module _ (a b : List ℕ) (f g : ℕ) (e : f ≡ flags_of a) (h : g ≡ flags_of b) where
  module _ (p : both_mapped f ≡ true) where
    module _ (q : both_mapped g ≡ true) where
      pub two-strands : (r x y : Bool) → eqℤ (ref_id_of a) (ref_id_of b) ≡ true → x ≡ is_reverse f → y ≡ is_reverse g → r ≡ xor x y → r ≡ are_opposite a b
      unfolding are_opposite
      two-strands r x y s t u v = simp (sym e, sym h, p, q, s, sym t, sym u) v

-- strands that differ: where the first record is forward, the second is reverse
last-of : (m x y : Bool) → (m && xor x y) ≡ true → x ≡ false → y ≡ true
unfolding xor
last-of true false true e f = refl
last-of true false false e f = false_true e
last-of true true y e f = false_true (sym f)
last-of false x y e f = false_true e

pub second_reverse : (a b : List ℕ) (f : ℕ) → are_opposite a b ≡ true → f ≡ flags_of a → is_reverse f ≡ false → is_reverse (flags_of b) ≡ true
unfolding are_opposite
second_reverse a b f o e p = last-of (both_mapped (flags_of a) && both_mapped (flags_of b) && eqℤ (ref_id_of a) (ref_id_of b)) (is_reverse (flags_of a)) (is_reverse (flags_of b)) o (ap is_reverse (sym e) ∙ p)

pub no_pair : (a b : List ℕ) → are_opposite a b ≡ false → Ok false ≡ is_primary_fr a b
unfolding is_primary_fr
no_pair a b o = simp o

pub decided : (a b : List ℕ) (f : ℕ) (r : Answer Bool) (t : Bool) → are_opposite a b ≡ true → f ≡ flags_of a → is_reverse f ≡ t → r ≡ is_fr (cond t a b) → r ≡ is_primary_fr a b
unfolding is_primary_fr
decided a b f r t o e p w = simp (o, sym e, p) w

-- an order of positions, over their raised numbers
module _ (s p n : ℤ) (i : SFits w32 s) (j : SFits w32 p) (k : SFits w32 n) where
  sums : (up (last_of p n) + dn p + dn n + 0 ≡ dn (last_of p n) + up p + up n)
  sums = let a = plus p (pos 1) in let b = plus (p +ℤ pos 1) n in let c = minus (p +ℤ pos 1 +ℤ n) (pos 1) in omega arith

  pub starts_by : raised s + 2147483648 < raised p + raised n → le_z (start_of s) (last_of p n) ≡ true
  starts_by h = leℤ (start_of s) (last_of p n) (omega (arith, sums, plus s (pos 1), raise_fact s i, raise_fact p j, raise_fact n k))

  pub starts_past : raised p + raised n ≤ raised s + 2147483648 → le_z (start_of s) (last_of p n) ≡ false
  starts_past h = gtℤ (start_of s) (last_of p n) (omega (arith, sums, plus s (pos 1), raise_fact s i, raise_fact p j, raise_fact n k))
