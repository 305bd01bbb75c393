-- The bytes at hand, or those behind one read.
use Rattle.std.proofs.Common.{inl, inr, sym, ◌∙◌}
use Rattle.report_rules.specs.Run.{Refilled.enough, Refilled.reads}
use Rattle.report_turns.proofs.refill.Goals as goal

pub returns-then-s-ge-ENOUGH-clause-refilled : goal.returns-then-s-ge-ENOUGH-clause-refilled
returns-then-s-ge-ENOUGH-clause-refilled g c = enough (inr c.if-s-ge-ENOUGH.true)

pub returns-then-is_over-clause-refilled : goal.returns-then-is_over-clause-refilled
returns-then-is_over-clause-refilled g c = enough (inl (sym c.is_over.ensures ∙ c.if-is_over.true))

pub returns-clause-refilled : goal.returns-clause-refilled
returns-clause-refilled g c = reads c.if-s-ge-ENOUGH.false c.fill-r.ensures.filled
