use Rattle.std.proofs.Common.{◌-◌, take, ap, ◌∙◌, arith}
use Rattle.blocks.proofs.BlockLaws.{moved}
use Rattle.blocks.proofs.shift.Goals as goal

pub returns : goal.returns
returns c = ap (take (c.args.have - c.args.used)) c.copy_within.ensures.after ∙ moved c.args.block.now c.args.used (c.args.have - c.args.used) (omega arith)
