-- One op more is one more term of the sum, and what is left of the list is the rest of it.
use Rattle.std.proofs.Common.{arith}
use Rattle.lists.proofs.Walks.{sum_step, sum_done}
use Rattle.sam.specs.Op.{len_of}
use Rattle.clip_plan.proofs.total.Goals as goal

pub loop-i-preserved : goal.loop-i-preserved
loop-i-preserved g c =
    let s = sum_step len_of (g.L.OpList.ops c.args.list) c.loop-i.i _ c.op.ensures (omega arith) in (omega arith, omega arith)

pub returns : goal.returns
returns g c = let s = sum_done len_of (g.L.OpList.ops c.args.list) c.loop-i.i (omega arith) in omega arith
