-- Either all soft bases become hard, or as many as the amount asks for.
use native.Mathlib.Omega.{arith}
use Rattle.clip_rules.proofs.RuleLaws.{upgrade_all, upgrade_some}
use Rattle.clip_plan.proofs.upgrade.Goals as goal

pub returns-then-s-u-clause-by_index : goal.returns-then-s-u-clause-by_index
returns-then-s-u-clause-by_index c =
    λ xs. upgrade_all xs c.args.h c.args.s c.args.amount c.args.skip c.encode_op.result (omega arith) c.encode_op.ensures

pub returns-clause-by_index : goal.returns-clause-by_index
returns-clause-by_index c =
    λ xs. upgrade_some xs c.args.h c.args.s c.args.amount c.args.skip c.saturating_sub-u.result c.encode_op-2.result c.encode_op-3.result c.saturating_sub-u.ensures (omega arith) c.encode_op-2.ensures c.encode_op-3.ensures
