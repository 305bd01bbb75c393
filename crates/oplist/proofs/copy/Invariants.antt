-- After j turns the first j ops stand in out.
use Rattle.std.proofs.Common.{◌≡◌, length, take, drop}
use Rattle.lists.specs.Lists.{splice}
use Rattle.oplist.proofs.copy.Given as goal

abbrev pub invariant-loop-j : goal.invariant-loop-j
invariant-loop-j g l =
    (l.out ≡ splice l.fn.out l.at (take l.j (drop l.from (g.L.OpList.ops l.list)))) × (length l.out ≡ length l.fn.out)
