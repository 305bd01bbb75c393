-- From the first op on, nothing is left.
use native.Mathlib.Omega.{arith}
use Rattle.lists.proofs.Walks.{sum_done}
use Rattle.sam.specs.Op.{ref_len, query_len}
use Rattle.op_sums.proofs.sums.Goals as goal

pub returns-clause-refs_value : goal.returns-clause-refs_value
returns-clause-refs_value g c =
    let xs = g.L.OpList.ops c.args.list in
    let r = sum_done ref_len xs c.count.result (omega arith) in
    let q = sum_done query_len xs c.count.result (omega arith) in
    (omega arith, omega arith)
