-- The two tests, and then the rule.
use borrow.Author.Tests.{lt-ltb, le-ltb}
use lib.ListN.{length}
use Rattle.pairs_rules.specs.Pairs.{primary_fr_pair}
use Rattle.pairs.proofs.is_primary_fr_pair_raw.Goals as goal

pub returns-then-a-lt32 : goal.returns-then-a-lt32
unfolding primary_fr_pair
returns-then-a-lt32 c =
    simp (lt-ltb _ _ c.if-a-lt32.true)

pub returns-then-b-lt32 : goal.returns-then-b-lt32
unfolding primary_fr_pair
returns-then-b-lt32 c =
    simp (le-ltb (length c.args.a.now) 32 c.if-a-lt32.false, lt-ltb (length c.args.b.now) 32 c.if-b-lt32.true)

pub returns : goal.returns
unfolding primary_fr_pair
returns c =
    simp (le-ltb (length c.args.a.now) 32 c.if-a-lt32.false, le-ltb (length c.args.b.now) 32 c.if-b-lt32.false) c.primary_fr.ensures
