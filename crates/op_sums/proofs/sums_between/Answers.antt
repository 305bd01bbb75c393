-- What is summed so far and what is left make the sum from the first place on.
use Rattle.std.proofs.Common.{arith}
use Rattle.lists.proofs.Walks.{sum_step}
use Rattle.sam.specs.Op.{ref_len, query_len}
use Rattle.op_sums.proofs.sums_between.Goals as goal

pub loop-i-preserved : goal.loop-i-preserved
loop-i-preserved g c =
    let xs = g.L.OpList.ops c.args.list in
    let r = sum_step ref_len xs c.loop-i.i _ c.op-op.ensures (omega arith) in
    let q = sum_step query_len xs c.loop-i.i _ c.op-op.ensures (omega arith) in
    (omega arith, omega arith, omega arith, omega arith)

pub returns-clause-refs_bound : goal.returns-clause-refs_bound
returns-clause-refs_bound g c = let few = g.met.L.OpList.few c.args.list in (omega arith, omega arith)
