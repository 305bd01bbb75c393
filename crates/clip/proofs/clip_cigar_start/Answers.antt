-- Refusal 1 is the test's, and the rest is that of the start, over the record's ops.
use mathlib.Core.Bool.{true}
use borrow.Author.Tests.{lt-ltb, le-ltb}
use Rattle.answers.proofs.Unique.{settled, resettled}
use Rattle.clip_rules.specs.Answer.{clipped_record}
use Rattle.clip_rules.proofs.AnswerLaws.{own_limit}
use Rattle.clip.proofs.clip_cigar_start.Goals as goal

pub returns-then-bam-lt32 : goal.returns-then-bam-lt32
unfolding clipped_record
returns-then-bam-lt32 c =
    settled (simp (lt-ltb _ _ c.if-bam-lt32.true))

pub returns : goal.returns
unfolding clipped_record
returns c =
    simp (le-ltb _ _ c.if-bam-lt32.false) (resettled (own_limit _ _ c.args.amount true c.args.out.now _ c.count.ensures.value (c.of_record-list.ensures)) c.clip_start.ensures)
