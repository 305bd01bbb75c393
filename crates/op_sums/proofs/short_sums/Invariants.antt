-- What is summed so far and what is left make both sums.
use Rattle.std.proofs.Common.{◌≡◌, ◌+◌, ◌*◌, drop}
use Rattle.lists.specs.Lists.{sum_of}
use Rattle.sam.specs.Op.{ref_len, query_len}
use Rattle.op_sums.proofs.short_sums.Given as goal

abbrev pub invariant-loop-i : goal.invariant-loop-i
invariant-loop-i g l =
    let xs = g.L.OpList.ops l.list in
    l.both + (sum_of ref_len (drop l.i xs) + 4294967296 * sum_of query_len (drop l.i xs)) ≡ sum_of ref_len xs + 4294967296 * sum_of query_len xs
