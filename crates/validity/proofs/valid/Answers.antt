-- What the ops from i on are to the stage is what all are to the rules.
use Rattle.std.proofs.Common.{sym, ap, ◌∙◌, arith, List, ℕ}
use Rattle.lists.proofs.Walks.{step, done}
use Rattle.validity.specs.InnerStages.{accept_of, stage_after}
use Rattle.validity.proofs.StageLaws.{valid_run, valid_short, valid_turn, wrong_accept}
use Rattle.validity.proofs.valid.Goals as goal

pub loop-i-init : goal.loop-i-init
loop-i-init g c = valid_run _

pub returns-then-op-lt16 : goal.returns-then-op-lt16
returns-then-op-lt16 g c =
    let xs = g.L.OpList.ops c.args.list in
    valid_short xs c.loop-i.i c.op-op.result c.loop-i.p (step xs c.loop-i.i _ c.op-op.ensures (omega arith)) c.if-op-lt16.true ∙ c.loop-i.invariant

pub returns-then-is_wrong : goal.returns-then-is_wrong
returns-then-is_wrong g c =
    let xs = g.L.OpList.ops c.args.list in
    let left = step xs c.loop-i.i _ c.op-op.ensures (omega arith) in
    sym (wrong_accept c.step-p.result _ (sym c.is_wrong.ensures ∙ c.if-is_wrong.true))
    ∙ valid_turn xs c.loop-i.i c.op-op.result c.loop-i.p left c.if-op-lt16.false c.step-p.result c.step-p.ensures ∙ c.loop-i.invariant

pub loop-i-preserved : goal.loop-i-preserved
loop-i-preserved g c =
    let xs = g.L.OpList.ops c.args.list in
    let left = step xs c.loop-i.i _ c.op-op.ensures (omega arith) in
    valid_turn xs c.loop-i.i c.op-op.result c.loop-i.p left c.if-op-lt16.false c.step-p.result c.step-p.ensures ∙ c.loop-i.invariant

pub returns : goal.returns
unfolding stage_after
returns g c =
    let xs = g.L.OpList.ops c.args.list in
    c.accept.ensures ∙ sym (ap (λ (l : List ℕ). accept_of (stage_after c.loop-i.p l)) (done xs c.loop-i.i (omega arith))) ∙ c.loop-i.invariant
