-- A stretch, then what is like it: each takes the reader on, and at the end nothing is left.
use Prim.Native.Nat.{◌-◌, ◌*◌, ◌≤◌}
use mathlib.Core.Path.{◌≡◌}
use lib.ListN.{length}
use Rattle.validity.specs.declared.Stage.TheVariants.{Start}
use Rattle.read_text.specs.InnerRead.{Onward}
use Rattle.read_text.proofs.read_ops.Given as goal

abbrev pub invariant-loop-seen : goal.invariant-loop-seen
invariant-loop-seen l =
    (l.seen.n * 2 ≤ l.seen.at) × (length l.out ≡ length l.initial.out) × Onward l.text Start 0 0 l.initial.out l.seen.stage l.seen.n l.seen.at l.out

abbrev pub decreases-loop-seen : goal.decreases-loop-seen
decreases-loop-seen l =
    length l.text - l.seen.at
