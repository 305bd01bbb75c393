-- What is counted and what is left to count, over the room that is left, make the whole count.
use mathlib.Core.Path.{◌≡◌}
use Prim.Native.Nat.{◌+◌, ◌*◌, ◌≤◌}
use lib.ListN.{drop}
use Rattle.overhang_rules.specs.Reach.{up_to}
use Rattle.overhang.proofs.within.Given as goal

abbrev pub invariant-loop-i : goal.invariant-loop-i
invariant-loop-i g l =
    let xs = g.L.OpList.ops l.list in
    (l.bases ≤ 268435456 * l.i)
    × (l.bases + up_to 0 (drop l.i xs) l.left ≡ up_to 0 xs l.room)
