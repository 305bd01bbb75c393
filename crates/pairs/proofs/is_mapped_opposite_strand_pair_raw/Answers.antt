-- The one test, and then the rule.
use mathlib.Core.Path.{ap}
use Rattle.std.specs.Prelude.{Ok}
use borrow.Author.Tests.{lt-ltb, le-ltb}
use Rattle.pairs_rules.specs.Pairs.{opposite_pair}
use Rattle.pairs.proofs.is_mapped_opposite_strand_pair_raw.Goals as goal

pub returns-then-bam-lt32 : goal.returns-then-bam-lt32
unfolding opposite_pair
returns-then-bam-lt32 c =
    simp (lt-ltb _ _ c.if-bam-lt32.true)

pub returns : goal.returns
unfolding opposite_pair
returns c =
    simp (le-ltb _ _ c.if-bam-lt32.false) (ap Ok c.opposite.ensures)
