-- Each case is a law of the ops.
use mathlib.Core.Path.{sym, ◌∙◌}
use native.Mathlib.Omega.{arith}
use borrow.Author.Tests.{eq-eqb, ne_eqb}
use Rattle.sam.specs.Op.{code_of}
use Rattle.md_rules.proofs.StepLaws.{step_match, step_loss, step_other}
use Rattle.md.proofs.step.Goals as goal

pub returns-then-op-eq0 : goal.returns-then-op-eq0
returns-then-op-eq0 c =
    step_match c.args.text.now c.args.s c.args.op c.count_runs.result (eq-eqb (code_of c.args.op) 0 c.if-op-eq0.true) (omega arith) c.count_runs.ensures

pub returns-then-is_loss : goal.returns-then-is_loss
returns-then-is_loss c =
    step_loss c.args.text.now c.args.s c.args.op c.deletion.result (ne_eqb (code_of c.args.op) 0 c.if-op-eq0.false) (sym c.is_loss.ensures ∙ c.if-is_loss.true) c.deletion.ensures

pub returns : goal.returns
returns c =
    step_other c.args.text.now c.args.s c.args.op (ne_eqb (code_of c.args.op) 0 c.if-op-eq0.false) (sym c.is_loss.ensures ∙ c.if-is_loss.false) c.requires.0
