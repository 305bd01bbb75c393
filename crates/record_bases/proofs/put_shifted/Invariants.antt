-- What is written grows by blocks.
use Rattle.std.proofs.Common.{◌≡◌, ◌*◌, length, take}
use Rattle.lists.specs.Lists.{splice}
use Rattle.record_bases.proofs.PackLaws.{shifted}
use Rattle.record_bases.proofs.put_shifted.Given as goal

abbrev pub invariant-loop-i : goal.invariant-loop-i
invariant-loop-i l = l.out ≡ splice l.initial.out 0 (take (16 * l.i) (shifted l.bases (length l.initial.out)))
