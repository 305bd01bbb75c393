-- Each turn puts one number more.
use Prim.Native.Nat.{◌-◌, ◌≤◌}
use mathlib.Core.Path.{◌≡◌}
use lib.ListN.{length}
use Rattle.lists.specs.Lists.{splice}
use Rattle.csi_rules.specs.Csi.{numbers_from}
use Rattle.csi_levels.proofs.put_numbers.Given as goal

abbrev pub invariant-loop-j : goal.invariant-loop-j
invariant-loop-j l =
    (l.j ≤ l.n) × (l.out ≡ splice l.initial.out l.at (numbers_from l.bin l.j)) × (length l.out ≡ length l.initial.out)

abbrev pub decreases-loop-j : goal.decreases-loop-j
decreases-loop-j l =
    l.n - l.j
