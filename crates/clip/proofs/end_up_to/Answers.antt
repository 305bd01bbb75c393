-- Refusal 3 is the test's, and the rest is that of the end, over the lent list.
use borrow.Author.Tests.{lt-ltb}
use Rattle.answers.proofs.Unique.{settled}
use Rattle.clip_rules.specs.Answer.{clipped_up_to}
use Rattle.clip.proofs.end_up_to.Goals as goal

pub returns-in_default : goal.returns-in_default
unfolding clipped_up_to
returns-in_default c =
    settled (simp (lt-ltb _ _ c.in_default.ensures))
