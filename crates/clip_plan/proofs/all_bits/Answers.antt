-- One op more is at most the bits with its own.
use Rattle.std.proofs.Common.{arith}
use Rattle.clip_plan.proofs.BitLaws.{bits_turn, bits_done}
use Rattle.clip_plan.proofs.all_bits.Goals as goal

pub loop-i-preserved : goal.loop-i-preserved
loop-i-preserved g c = bits_turn (g.L.OpList.ops c.args.list) c.loop-i.i c.loop-i.bits c.loop-i.invariant _ c.op-bits.ensures (omega arith)

pub returns : goal.returns
returns g c = bits_done (g.L.OpList.ops c.args.list) c.loop-i.i c.loop-i.bits c.loop-i.invariant (omega arith)
