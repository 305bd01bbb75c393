-- What was taken and what will be taken of the rest make what is taken of the whole.
use Prim.Native.Nat.{◌*◌, ◌≤◌}
use mathlib.Core.Path.{◌≡◌}
use lib.ListN.{drop}
use Rattle.clip_rules.specs.Clipping.{taking, more}
use Rattle.clip_taking.proofs.take_bases.Given as goal

abbrev pub invariant-loop-i : goal.invariant-loop-i
invariant-loop-i g l =
    let xs = g.L.OpList.ops l.list in
    (more l.bases l.lost (taking (drop l.i xs) l.left) ≡ taking (drop l.from xs) l.n)
    × (l.bases ≤ 268435456 * l.i)
    × (l.lost ≤ 268435456 * l.i)
