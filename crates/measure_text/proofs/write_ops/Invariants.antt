-- What is left to store at i is all that is to be stored.
use Prim.Native.Nat.{◌-◌, ◌≤◌}
use mathlib.Core.Path.{◌≡◌}
use lib.ListN.{length, take, drop}
use lib.Seq.{sets}
use Rattle.text_rules.specs.Text.{text_ops}
use Rattle.measure_text.proofs.write_ops.Given as goal

abbrev pub invariant-loop-i : goal.invariant-loop-i
invariant-loop-i l =
    (l.i ≤ length l.text)
    × (l.at ≤ length l.initial.out)
    × (length l.out ≡ length l.initial.out)
    × (sets l.out l.at (take (length l.initial.out - l.at) (text_ops (drop l.i l.text))) ≡ sets l.initial.out 0 (take (length l.initial.out) (text_ops l.text)))

abbrev pub decreases-loop-i : goal.decreases-loop-i
decreases-loop-i l =
    length l.text - l.i
