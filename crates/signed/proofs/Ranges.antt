-- Which case of `side_of`, `checked` and `clamp32` a number is in, from facts of its halves.
use Rattle.std.proofs.Common.{◌≡◌, ◌+◌, ◌<◌, ◌≤◌, Bool, true, false, cond, ℤ, pos, negsuc, sym, refl, ap, ◌∙◌, inl, inr, arith, w32, SFits, FitsSigned}
use Rattle.std.proofs.lemmas.Bool.{cases_lt}
use Rattle.std.specs.Prelude.{None, Option, Some}
use Rattle.std.specs.Int.{saturate_signed}
use Rattle.std.specs.Option.{SomeIff}
use mathlib.Core.Path.{subst⁻¹}
use lib.Signed.{lt_z}
use Rattle.signed.specs.Whole.{Below, Within, Above, side_of, sum_at, nearest, checked, clamp32}
use Rattle.signed.proofs.Halves.{up, dn, ltℤ, geℤ, is_ge, sfits32, top32, low32}

module _ (z : ℤ) where
  pub side_in : up z < dn z + 2147483648 → dn z ≤ up z + 2147483648 → side_of z ≡ Within z
  unfolding side_of
  side_in h k = simp (geℤ z (negsuc 2147483647) (omega arith), geℤ (pos 2147483647) z (omega arith))

  pub side_above : dn z + 2147483648 ≤ up z → side_of z ≡ Above
  unfolding side_of
  side_above h = simp (geℤ z (negsuc 2147483647) (omega arith), ltℤ (pos 2147483647) z (omega arith))

  pub side_below : up z + 2147483648 < dn z → side_of z ≡ Below
  unfolding side_of
  side_below h = simp (ltℤ z (negsuc 2147483647) (omega arith))

  pub checked_in : up z < dn z + 2147483648 → dn z ≤ up z + 2147483648 → checked z ≡ Some z
  unfolding checked
  checked_in h k = ap sum_at (side_in h k)

  pub checked_above : dn z + 2147483648 ≤ up z → checked z ≡ None
  unfolding checked
  checked_above h = ap sum_at (side_above h)

  pub clamp_in : up z < dn z + 2147483648 → dn z ≤ up z + 2147483648 → clamp32 z ≡ z
  unfolding clamp32
  clamp_in h k = ap nearest (side_in h k)

  pub clamp_above : dn z + 2147483648 ≤ up z → clamp32 z ≡ pos 2147483647
  unfolding clamp32
  clamp_above h = ap nearest (side_above h)

  pub clamp_below : up z + 2147483648 < dn z → clamp32 z ≡ negsuc 2147483647
  unfolding clamp32
  clamp_below h = ap nearest (side_below h)

-- ---- a sum that fits is the number, and an i32 holds it

abbrev number_in : Option ℤ → ℤ → ℤ
number_in (Some z) y = z
number_in None y = y

abbrev Fitting : Option ℤ → Type 0
Fitting (Some z) = Unit {0}
Fitting None = ⊥

pub checked_number : (z y : ℤ) → checked z ≡ Some y → (y ≡ z) × SFits w32 z
unfolding checked side_of
checked_number z y e = go (lt_z z (negsuc 2147483647)) refl (lt_z (pos 2147483647) z) refl e
  where
    go : (p : Bool) → lt_z z (negsuc 2147483647) ≡ p → (q : Bool) → lt_z (pos 2147483647) z ≡ q → sum_at (cond p Below (cond q Above (Within z))) ≡ Some y → (y ≡ z) × SFits w32 z
    go true f q g e = absurd (subst⁻¹ Fitting e tt)
    go false f true g e = absurd (subst⁻¹ Fitting e tt)
    go false f false g e =
        let h = is_ge z (negsuc 2147483647) f in
        let k = is_ge (pos 2147483647) z g in
        (ap (λ (s : Option ℤ). number_in s z) (sym e), sfits32 z (omega arith) (omega arith))

-- ---- the library's sums: the number where an i32 holds it, and the nearest number
pub checked_is : (z : ℤ) (r : Option ℤ) → SomeIff r (FitsSigned w32 z) z → r ≡ checked z
unfolding checked side_of
checked_is z (Some x) told = ap Some told.1 ∙ sym (checked_in z (omega (arith, top32 z told.0)) (omega (arith, low32 z told.0)))
checked_is z None out = go (lt_z z (negsuc 2147483647)) refl (lt_z (pos 2147483647) z) refl
  where
    go : (p : Bool) → lt_z z (negsuc 2147483647) ≡ p → (q : Bool) → lt_z (pos 2147483647) z ≡ q → None ≡ checked z
    go true f q g = simp f refl
    go false f true g = simp (f, g) refl
    go false f false g =
        let h = is_ge z (negsuc 2147483647) f in
        let k = is_ge (pos 2147483647) z g in
        absurd (out (sfits32 z (omega arith) (omega arith)))

pub clamp_is : (z : ℤ) → saturate_signed w32 z ≡ clamp32 z
clamp_is (pos n) = elim (cases_lt n 2147483648) [ inl h ↦ ap pos (omega arith) ∙ sym (clamp_in (pos n) (omega arith) (omega arith)) | inr h ↦ ap pos (omega arith) ∙ sym (clamp_above (pos n) (omega arith)) ]
clamp_is (negsuc n) = elim (cases_lt n 2147483648) [ inl h ↦ ap negsuc (omega arith) ∙ sym (clamp_in (negsuc n) (omega arith) (omega arith)) | inr h ↦ ap negsuc (omega arith) ∙ sym (clamp_below (negsuc n) (omega arith)) ]
