-- The one test is the definition's.
use Rattle.std.proofs.Common.{lt-ltb, le-ltb}
use Rattle.fields.specs.Fields.{part_refusal}
use Rattle.fields.proofs.part_refusal.Goals as goal

pub returns-then-bam-lt32 : goal.returns-then-bam-lt32
unfolding part_refusal
returns-then-bam-lt32 c = simp (lt-ltb _ _ c.if-bam-lt32.true) c.number.ensures

pub returns : goal.returns
unfolding part_refusal
returns c = simp (le-ltb _ _ c.if-bam-lt32.false)
