-- The place after an op, by the tests that the code makes: whether the op is an inner one, whether the place is past the inner ops.
use Prim.Native.Nat.{ℕ, ◌/◌, ◌%◌, ◌^◌, ◌<◌}
use mathlib.Core.Path.{◌≡◌, refl, sym, ap, ◌∙◌}
use mathlib.Core.Bool.{Bool, true, false, cond}
use lib.Dec.{eqb}
use borrow.Author.Tests.{eq-eqb, ne_eqb}
use Rattle.lists.proofs.Absurd.{never}
use Rattle.lists.proofs.Tables.{below_same}
use Rattle.sam.specs.Op.{is_ref}
use Rattle.validity.specs.InnerClass.{Class, Class.Reference, Class.Other, Class.Soft, Class.Hard, Class.Unknown}
use Rattle.validity.specs.InnerStages.{code_class, is_inner_class, step_of}
use Rattle.validity.specs.declared.Stage.{Stage}
use Rattle.validity.specs.declared.Stage.TheVariants.{Wrong}
use Rattle.validity.proofs.StageLaws.{has_is, ref_b, soft_b, hard_b, class_ref, class_soft, class_hard, step_unknown}

-- the mask of the inner codes
pub inner_bit : (c : ℕ) → c < 16 → eqb (463 / 2 ^ c % 2) 1 ≡ is_inner_class (code_class c)
unfolding code_class is_ref
inner_bit c h = below_same (λ d. eqb (463 / 2 ^ d % 2) 1) (λ d. is_inner_class (code_class d)) 16 c refl h

-- ---- an inner op

abbrev pub inner_by : Bool → Class
inner_by reference = cond reference Reference Other

-- ---- which class a code has

inner_is : (k : Class) → is_inner_class k ≡ true → inner_by (ref_b k) ≡ k
inner_is Reference e = refl
inner_is Other e = refl
inner_is Soft e = never (cc)
inner_is Hard e = never (cc)
inner_is Unknown e = never (cc)

rest-is : (k : Class) → is_inner_class k ≡ false → soft_b k ≡ false → hard_b k ≡ false → Unknown ≡ k
rest-is Reference e f g = never (cc)
rest-is Other e f g = never (cc)
rest-is Soft e f g = never (cc)
rest-is Hard e f g = never (cc)
rest-is Unknown e f g = refl

module _ (c : ℕ) (h : c < 16) where
  pub code_inner : is_inner_class (code_class c) ≡ true → inner_by (is_ref c) ≡ code_class c
  code_inner e = ap inner_by (sym (class_ref c h)) ∙ inner_is (code_class c) e

  pub code_soft : c ≡ 4 → Soft ≡ code_class c
  code_soft e = has_is 2 (code_class c) (class_soft c h ∙ eq-eqb c 4 e)

  pub code_hard : c ≡ 5 → Hard ≡ code_class c
  code_hard e = has_is 3 (code_class c) (class_hard c h ∙ eq-eqb c 5 e)

  pub code_rest : (p : Stage) → is_inner_class (code_class c) ≡ false → (c ≡ 4 → ⊥) → (c ≡ 5 → ⊥) → Wrong ≡ step_of p (code_class c)
  code_rest p e f g =
      sym (step_unknown p) ∙ ap (step_of p) (rest-is (code_class c) e (class_soft c h ∙ ne_eqb c 4 f) (class_hard c h ∙ ne_eqb c 5 g))
