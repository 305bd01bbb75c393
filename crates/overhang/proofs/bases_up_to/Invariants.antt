-- What is counted and what is left to count make the whole count over places, which is the definition's over positions.
use mathlib.Core.Path.{◌≡◌}
use Prim.Native.Nat.{◌+◌, ◌*◌, ◌≤◌, ◌<◌}
use lib.ListN.{drop}
use Rattle.overhang_rules.proofs.ReachLaws.{up_to_place}
use Rattle.overhang.proofs.bases_up_to.Given as goal

abbrev pub invariant-loop-i : goal.invariant-loop-i
invariant-loop-i g l =
    let xs = g.L.OpList.ops l.list in
    (l.place < 4294967296)
    × (l.bases ≤ 268435456 * l.i)
    × (l.bases + up_to_place l.on l.last l.place (drop l.i xs) ≡ up_to_place l.on l.last l.initial.place xs)
