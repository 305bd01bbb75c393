-- The one test, and then the rule.
use borrow.Author.Tests.{lt-ltb, le-ltb}
use Rattle.pairs_rules.specs.Pairs.{fr_pair}
use Rattle.pairs.proofs.is_fr_pair_raw.Goals as goal

pub returns-then-bam-lt32 : goal.returns-then-bam-lt32
unfolding fr_pair
returns-then-bam-lt32 c =
    simp (lt-ltb _ _ c.if-bam-lt32.true)

pub returns : goal.returns
unfolding fr_pair
returns c =
    simp (le-ltb _ _ c.if-bam-lt32.false) c.fr.ensures
