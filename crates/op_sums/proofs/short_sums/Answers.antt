-- What is summed so far and what is left make both sums; the reference's is below 2^32, so that the two stand apart.
use native.Mathlib.Omega.{arith}
use Rattle.lists.proofs.Walks.{sum_step, sum_done}
use Rattle.sam.specs.Op.{ref_len, query_len}
use Rattle.op_sums.proofs.Weights.{refs_short, queries_short}
use Rattle.op_sums.proofs.short_sums.Goals as goal

pub overflow_add-both : goal.overflow_add-both
overflow_add-both g c =
    let xs = g.L.OpList.ops c.args.list in
    let r = sum_step ref_len xs c.loop-i.i _ c.op.ensures (omega arith) in
    let q = sum_step query_len xs c.loop-i.i _ c.op.ensures (omega arith) in
    let s = refs_short xs in
    let t = queries_short xs in
    omega arith

pub loop-i-preserved : goal.loop-i-preserved
loop-i-preserved g c =
    let xs = g.L.OpList.ops c.args.list in
    let r = sum_step ref_len xs c.loop-i.i _ c.op.ensures (omega arith) in
    let q = sum_step query_len xs c.loop-i.i _ c.op.ensures (omega arith) in
    omega arith

pub returns : goal.returns
returns g c =
    let xs = g.L.OpList.ops c.args.list in
    let r = sum_done ref_len xs c.loop-i.i (omega arith) in
    let q = sum_done query_len xs c.loop-i.i (omega arith) in
    let s = refs_short xs in
    (omega arith, omega arith)
