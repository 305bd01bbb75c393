-- Nothing is skipped.
use Rattle.bam_header.specs.Header.{texted}
use Rattle.bam_header.proofs.HeadLaws.{past_none}
use Rattle.bam_header.proofs.start.Goals as goal

pub returns : goal.returns
returns c = λ s. past_none texted s
