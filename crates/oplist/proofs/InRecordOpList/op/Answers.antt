use Rattle.std.proofs.Common.{◌∙◌, arith}
use Rattle.oplist.specs.Few.{count_is}
use Rattle.oplist.proofs.OpsLaws.{op_is}
use Rattle.oplist.proofs.InRecordOpList.op.Goals as goal

pub overflow_mul-i : goal.overflow_mul-i
overflow_mul-i c = let n = count_is c.args.self.bytes.now in omega arith

pub u32_at-requires : goal.u32_at-requires
u32_at-requires c = let n = count_is c.args.self.bytes.now in omega arith

pub returns : goal.returns
returns c = c.u32_at.ensures ∙ op_is c.args.self.bytes.now c.args.i c.requires
