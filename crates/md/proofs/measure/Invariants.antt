-- The ops that are passed and those that are left make the list.
use Rattle.md_rules.proofs.PassLaws.{Passed}
use Rattle.md.proofs.measure.Given as goal

abbrev pub invariant-loop-op : goal.invariant-loop-op
invariant-loop-op l =
    Passed l.ops l.text l.op-index l.s
