-- What is copied grows by blocks.
use Rattle.std.proofs.Common.{◌≡◌, ◌*◌, take}
use Rattle.lists.specs.Lists.{splice}
use Rattle.record_parts.proofs.copy_blocks.Given as goal

abbrev pub invariant-loop-i : goal.invariant-loop-i
invariant-loop-i l = l.to ≡ splice l.initial.to 0 (take (16 * l.i) l.from)
