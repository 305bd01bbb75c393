-- The sizes of the parts.
use native.Mathlib.Omega.{arith}
use Rattle.record_write.proofs.RecordLaws.{size_is}
use Rattle.record_write.proofs.size_of.Goals as goal

pub returns : goal.returns
returns c =
    λ start. size_is c.args.bam.now start c.args.p c.requires _ (omega arith)
