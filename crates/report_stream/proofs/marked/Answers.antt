-- A stream begins with its mark where the bytes of the mark stand in front.
use Rattle.std.proofs.Common.{◌∙◌}
use Rattle.stream_rules.proofs.MarkLaws.{starts_marked}
use Rattle.report_stream.proofs.marked.Goals as goal

pub returns : goal.returns
returns c = c.starts_with.ensures.value ∙ starts_marked c.args.s.now
