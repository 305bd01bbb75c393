-- The tests in their order.
use mathlib.Core.Path.{◌∙◌}
use native.Mathlib.Omega.{arith}
use Rattle.record_rules.specs.InnerPlan.{change_by}
use Rattle.receive_rules.proofs.AnswerLaws.{received_short, received_cut, received_whole}
use Rattle.receive.proofs.weigh.Goals as goal

pub returns-then-got-lt32 : goal.returns-then-got-lt32
returns-then-got-lt32 c =
    received_short c.args.got.now c.args.rec.now (change_by c.args.rec.now c.args.start c.args.p) c.if-got-lt32.true

pub returns-then-got-tags_start : goal.returns-then-got-tags_start
returns-then-got-tags_start c =
    received_cut c.args.got.now c.args.rec.now (change_by c.args.rec.now c.args.start c.args.p) (omega arith) (omega (arith, c.tags_start.ensures.0))

pub returns : goal.returns
returns c =
    c.compare.ensures ∙ received_whole c.args.got.now c.args.rec.now (change_by c.args.rec.now c.args.start c.args.p) (omega arith) (omega (arith, c.tags_start.ensures.0))
