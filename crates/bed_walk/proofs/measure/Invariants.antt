-- What was passed and what is left make the whole: an N before the first block ends the walk, and at its end the open stretch makes the last block, or 14 is due.
use Prim.Native.Nat.{◌+◌, ◌*◌, ◌≤◌}
use lib.ListN.{length}
use Rattle.bed_walk.proofs.PassLaws.{Left}
use Rattle.bed_walk.proofs.measure.Given as goal

abbrev pub invariant-loop-op : goal.invariant-loop-op
invariant-loop-op l =
    (l.op-index ≤ length l.ops) × (l.walk.start + l.walk.size ≤ 268435456 * l.op-index) × Left l.walk l.op-index l.ops
