-- `mate_text::mate_unclipped_5prime` meets its contract: the definition at the test's two answers.
use borrow.Author.Rules.{rules}
use Rattle.mate_text.specs.Mate.{mate_five_prime, mate_unclipped}
use Rattle.mate_text.proofs.mate_unclipped_5prime.Goals as goal

pub returns-then-reverse : goal.returns-then-reverse
unfolding mate_unclipped mate_five_prime
returns-then-reverse c = search rules

pub returns : goal.returns
unfolding mate_unclipped mate_five_prime
returns c = search rules
