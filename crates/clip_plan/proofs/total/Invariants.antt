-- One op more is one more term of the sum, and what is left of the list is the rest of it.
use Rattle.std.proofs.Common.{◌≡◌, ◌+◌, ◌*◌, ◌≤◌, drop}
use Rattle.lists.specs.Lists.{sum_of}
use Rattle.sam.specs.Op.{len_of}
use Rattle.clip_plan.proofs.total.Given as goal

abbrev pub invariant-loop-i : goal.invariant-loop-i
invariant-loop-i g l =
    let xs = g.L.OpList.ops l.list in (l.sum ≤ 268435456 * l.i) × (l.sum + sum_of len_of (drop l.i xs) ≡ sum_of len_of xs)
