-- Each op is an inner one, and leaves the stage as it was.
use Prim.Native.Nat.{◌-◌, ◌*◌, ◌≤◌}
use mathlib.Core.Path.{◌≡◌}
use lib.ListN.{length}
use Rattle.validity.specs.declared.Stage.TheVariants.{Good}
use Rattle.read_text.specs.InnerRead.{Onward}
use Rattle.read_text.proofs.alike.Given as goal

abbrev pub invariant-loop-i : goal.invariant-loop-i
invariant-loop-i l =
    (l.n * 2 ≤ l.i) × (l.i ≤ length l.text) × (length l.out ≡ length l.initial.out) × Onward l.text Good l.had l.from l.initial.out Good l.n l.i l.out

abbrev pub decreases-loop-i : goal.decreases-loop-i
decreases-loop-i l =
    length l.text - l.i
