-- What is summed and what is left are the whole.
use Rattle.std.proofs.Common.{◌≡◌, ◌+◌, ◌*◌, ◌≤◌, drop}
use Rattle.lists.specs.Lists.{sum_of}
use Rattle.sam.specs.Op.{query_len}
use Rattle.record_left.proofs.first_query.Given as goal

abbrev pub invariant-loop-i : goal.invariant-loop-i
invariant-loop-i g l =
    let xs = g.L.OpList.ops l.list in
    (l.query ≤ 268435456 * l.i)
    × (l.query + sum_of query_len (drop l.i xs) ≡ sum_of query_len xs)
