-- The tests of the code are those of its class.
use mathlib.Core.Path.{sym, ap, ◌∙◌}
use native.Mathlib.Omega.{arith}
use Rattle.sam.specs.Op.{code_of}
use Rattle.validity.specs.InnerStages.{step_of}
use Rattle.validity.proofs.StepLaws.{inner_by, code_inner, code_soft, code_hard, code_rest}
use Rattle.validity.proofs.Stage.step.Goals as goal

pub returns-then-is_inner : goal.returns-then-is_inner
returns-then-is_inner c =
    c.after_inner.ensures
    ∙ ap (λ k. step_of c.args.self k)
    (ap inner_by c.consumes_ref.ensures ∙ code_inner (code_of c.args.op) (omega arith) (sym c.is_inner.ensures ∙ c.if-is_inner.true))

pub returns-in-4 : goal.returns-in-4
returns-in-4 c =
    c.after_soft.ensures ∙ ap (step_of c.args.self) (code_soft (code_of c.args.op) (omega arith) c.in-4.is)

pub returns-in-5 : goal.returns-in-5
returns-in-5 c =
    c.after_hard.ensures ∙ ap (step_of c.args.self) (code_hard (code_of c.args.op) (omega arith) c.in-5.is)

pub returns-in_default : goal.returns-in_default
returns-in_default c =
    code_rest (code_of c.args.op) (omega arith) c.args.self (sym c.is_inner.ensures ∙ c.if-is_inner.false) (omega arith) (omega arith)
