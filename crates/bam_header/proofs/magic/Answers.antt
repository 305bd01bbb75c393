-- A stream begins with the magic where its bytes stand in front.
use Rattle.std.proofs.Common.{◌∙◌}
use Rattle.bam_header.proofs.HeadLaws.{starts_bam}
use Rattle.bam_header.proofs.magic.Goals as goal

pub returns : goal.returns
returns c = c.starts_with.ensures.value ∙ starts_bam c.args.s.now
