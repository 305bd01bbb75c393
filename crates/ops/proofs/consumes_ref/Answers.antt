-- The mask is the table.
use Rattle.std.proofs.Common.{◌∙◌}
use Rattle.ops.proofs.CodeLaws.{ref_bit}
use Rattle.ops.proofs.consumes_ref.Goals as goal

pub returns : goal.returns
returns c = c.has_bit.ensures ∙ ref_bit c.args.op
