-- One op more is at most the bits with its own.
use Rattle.clip_plan.proofs.BitLaws.{Bounded}
use Rattle.clip_plan.proofs.all_bits.Given as goal

abbrev pub invariant-loop-i : goal.invariant-loop-i
invariant-loop-i g l = Bounded l.bits l.i (g.L.OpList.ops l.list)
