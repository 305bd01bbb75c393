-- The mask is the table.
use Rattle.std.proofs.Common.{◌∙◌}
use Rattle.ops.proofs.CodeLaws.{query_bit}
use Rattle.ops.proofs.consumes_query.Goals as goal

pub returns : goal.returns
returns c = c.has_bit.ensures ∙ query_bit c.args.op
