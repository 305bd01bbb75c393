-- By the test of the length; the end is the checked sum of the position and the length.
use Prim.Native.Nat.{ℕ}
use mathlib.Core.Path.{◌≡◌, ap, sym, ◌∙◌}
use mathlib.Core.Bool.{false}
use borrow.Author.Tests.{ne_eqb}
use lib.Dec.{eqb}
use mir.Syntax.{w32}
use mir.Facts.{to_z-of_z}
use mir.Val.{to_z, of_z}
use Rattle.signed.specs.Whole.{natural}
use Rattle.ends_rules.specs.Sums.{both}
use borrow.Author.Rules.{rules}
use Rattle.ends.proofs.end_at.Goals as goal

pub returns : goal.returns
unfolding both
returns c =
    let told : c.natural_of.result ≡ natural c.args.n = simp (to_z-of_z c.ranges.n) at c.natural_of.ensures.0 in
    let bare : eqb (natural c.args.n) 0 ≡ false = ap (λ (n : ℕ). eqb n 0) (sym told) ∙ ne_eqb _ 0 c.if-natural_of-eq0.false in
    let e : to_z w32 (of_z w32 c.args.pos.0) ≡ c.args.pos.0 = search rules in
    simp (bare) (search rules)

pub returns-in_err-place : goal.returns-in_err-place
unfolding both
returns-in_err-place c =
    let told : c.natural_of.result ≡ natural c.args.n = simp (to_z-of_z c.ranges.n) at c.natural_of.ensures.0 in
    let bare : eqb (natural c.args.n) 0 ≡ false = ap (λ (n : ℕ). eqb n 0) (sym told) ∙ ne_eqb _ 0 c.if-natural_of-eq0.false in
    let e : to_z w32 (of_z w32 c.args.pos.0) ≡ c.args.pos.0 = search rules in
    simp (bare) (search rules)
