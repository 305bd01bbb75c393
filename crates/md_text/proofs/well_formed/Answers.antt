-- What is left of the text behind the bytes that were passed is well formed where the whole is.
use Prim.Native.Nat.{◌+◌}
use Rattle.md_rules.specs.declared.Place.{Place}
use Rattle.md_rules.specs.declared.Place.TheVariants.{Wants, Number, Caret, Letters, Wrong}
use Rattle.md_rules.proofs.PlaceLaws.{next_fits, end_fits}
use mathlib.Core.Bool.{false}
use mathlib.Core.Path.{◌≡◌, refl, sym, ap, ◌∙◌}
use native.Mathlib.Omega.{arith}
use lib.ListN.{drop}
use Rattle.md_rules.specs.Md.{fits, may_end}
use Rattle.md_text.proofs.well_formed.Goals as goal

no_end : (p : Place) → (p ≡ Number → ⊥) → may_end p ≡ false
no_end Wants n = refl
no_end Number n = absurd (n refl)
no_end Caret n = refl
no_end Letters n = refl
no_end Wrong n = refl

pub loop-b-preserved : goal.loop-b-preserved
loop-b-preserved c =
    ap (λ (q : Place). fits q (drop (c.loop-b.b-index + 1) c.args.text.now)) c.next_place-p.ensures ∙ sym (next_fits c.args.text.now c.loop-b.b-index c.loop-b.p (omega arith)) ∙ c.loop-b.invariant

pub returns-in-Number : goal.returns-in-Number
returns-in-Number c =
    sym (ap may_end c.in-Number.is) ∙ sym (end_fits c.args.text.now c.loop-b.b-index c.loop-b.p (omega arith)) ∙ c.loop-b.invariant

pub returns-in_default : goal.returns-in_default
returns-in_default c =
    sym (no_end c.loop-b.p c.in_default.not-Number) ∙ sym (end_fits c.args.text.now c.loop-b.b-index c.loop-b.p (omega arith)) ∙ c.loop-b.invariant
