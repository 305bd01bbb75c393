-- What is summed so far and what is left make the sum from the first place on.
use Rattle.std.proofs.Common.{◌≡◌, ◌+◌, ◌*◌, ◌≤◌, drop}
use Rattle.lists.specs.Lists.{sum_of}
use Rattle.sam.specs.Op.{ref_len, query_len}
use Rattle.op_sums.proofs.sums_between.Given as goal

abbrev pub invariant-loop-i : goal.invariant-loop-i
invariant-loop-i g l =
    let xs = g.L.OpList.ops l.list in
    (l.refs ≤ 268435456 * l.i)
    × (l.query ≤ 268435456 * l.i)
    × (l.refs + sum_of ref_len (drop l.i xs) ≡ sum_of ref_len (drop l.from xs))
    × (l.query + sum_of query_len (drop l.i xs) ≡ sum_of query_len (drop l.from xs))
