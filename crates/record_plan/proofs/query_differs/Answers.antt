-- By the test.
use borrow.Author.Tests.{eq-eqb, ne_eqb}
use Rattle.record_rules.specs.Clipping.{differs}
use Rattle.record_plan.proofs.query_differs.Goals as goal

pub returns-then-len-ne0 : goal.returns-then-len-ne0
unfolding differs
returns-then-len-ne0 c = simp (ne_eqb _ _ c.if-len-ne0.true)

pub returns-else-len-ne0 : goal.returns-else-len-ne0
unfolding differs
returns-else-len-ne0 c = simp (eq-eqb _ _ c.if-len-ne0.false)
