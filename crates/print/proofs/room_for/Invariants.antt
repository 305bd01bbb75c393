-- The bytes so far and those that are left are all bytes, and no code so far is bad.
use Prim.Native.Nat.{◌+◌, ◌*◌, ◌≤◌}
use mathlib.Core.Path.{◌≡◌}
use lib.ListN.{length, drop}
use Rattle.print_rules.specs.Text.{text_of, any_bad}
use Rattle.print.proofs.room_for.Given as goal

abbrev pub invariant-loop-i : goal.invariant-loop-i
invariant-loop-i g l =
    let xs = g.L.OpList.ops l.list in
    (l.n ≤ 21 * l.i)
    × (l.n + length (text_of (drop l.i xs)) ≡ length (text_of xs))
    × (any_bad (drop l.i xs) ≡ any_bad xs)
