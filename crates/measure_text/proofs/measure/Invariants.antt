-- What is left of the pass at i is the whole pass.
use Prim.Native.Nat.{◌-◌, ◌≤◌}
use mathlib.Core.Path.{◌≡◌}
use lib.ListN.{length}
use Rattle.text_rules.specs.Text.{is_row, text_ops}
use Rattle.measure_text.specs.InnerPass.{at_start}
use Rattle.measure_text.proofs.PassLaws.{left_of, left_at}
use Rattle.measure_text.proofs.measure.Given as goal

abbrev pub invariant-loop-i : goal.invariant-loop-i
invariant-loop-i l =
    (l.i ≤ length l.text)
    × (l.seen.n ≤ l.i)
    × (l.seen.refs ≤ 2147483647)
    × (left_at l.seen l.i l.text ≡ left_of at_start (is_row l.text) (text_ops l.text))

abbrev pub decreases-loop-i : goal.decreases-loop-i
decreases-loop-i l =
    length l.text - l.i
