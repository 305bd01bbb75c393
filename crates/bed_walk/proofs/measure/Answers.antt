-- What was passed and what is left make the whole: an N before the first block ends the walk, and at its end the open stretch makes the last block, or 14 is due.
use mathlib.Core.Path.{refl, sym, ◌∙◌}
use mathlib.Core.Bool.{true, false}
use native.Mathlib.Omega.{arith}
use borrow.Author.Tests.{eq-eqb, ne_eqb}
use Rattle.bed_rules.proofs.AnswerLaws.{measured_not, measured_are}
use Rattle.bed_walk.proofs.PassLaws.{left_all, left_turn, early_unfit, end_fit, end_refs, end-count}
use Rattle.bed_walk.proofs.measure.Goals as goal

pub loop-op-init : goal.loop-op-init
loop-op-init c =
    (omega arith, omega arith, left_all _)

pub loop-op-preserved : goal.loop-op-preserved
loop-op-preserved c =
    let f = sym c.is_early.ensures ∙ c.if-is_early.false in
    (omega arith, omega (arith, c.pass-walk.ensures.2), left_turn _ c.loop-op.invariant.2 refl c.loop-op-test.true f c.pass-walk.ensures.0 c.pass-walk.ensures.1)

pub returns-then-is_early-clause-value : goal.returns-then-is_early-clause-value
returns-then-is_early-clause-value c =
    sym (measured_not _ (early_unfit _ c.loop-op.invariant.2 refl c.loop-op-test.true (sym c.is_early.ensures ∙ c.if-is_early.true)))

pub returns-then-walk-eq0-clause-value : goal.returns-then-walk-eq0-clause-value
returns-then-walk-eq0-clause-value c =
    sym (measured_not _ (end_fit c.loop-op.invariant.2 c.loop-op-test.false true (eq-eqb _ _ c.if-walk-eq0.true)))

pub returns-clause-value : goal.returns-clause-value
returns-clause-value c =
    let l = c.loop-op.invariant.2 in
    let h = c.loop-op-test.false in
    let z = ne_eqb _ _ c.if-walk-eq0.false in
    measured_are _ (end_fit l h false z) _ _ (end-count l h z) (end_refs l h)
