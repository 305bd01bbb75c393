-- What is summed and what is left are the whole.
use Rattle.std.proofs.Common.{◌≡◌, ap, arith, take, drop, take-append-drop}
use Rattle.lists.specs.Lists.{sum_of}
use Rattle.lists.proofs.Sums.{sum-append}
use Rattle.lists.proofs.Walks.{sum_step}
use Rattle.sam.specs.Op.{query_len}
use Rattle.record_left.proofs.first_query.Goals as goal

pub loop-i-preserved : goal.loop-i-preserved
loop-i-preserved g c =
    let xs = g.L.OpList.ops c.args.list in
    let q = sum_step query_len xs c.loop-i.i _ c.op.ensures (omega arith) in
    (omega arith, omega arith)

pub returns : goal.returns
returns g c =
    let xs = g.L.OpList.ops c.args.list in
    let few = g.met.L.OpList.few c.args.list in
    let e : c.loop-i.i ≡ c.args.n = omega arith in
    let s = sum-append query_len (take c.loop-i.i xs) (drop c.loop-i.i xs) in
    let w = ap (sum_of query_len) (take-append-drop c.loop-i.i xs) in
    let t = ap (λ n. sum_of query_len (take n xs)) e in
    (omega arith, omega arith)
