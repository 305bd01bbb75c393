use Rattle.std.proofs.Common.{◌-◌, length}
use Rattle.stream_rules.specs.Inner.{Gone}
use Rattle.report_stream.proofs.lines_at_hand.Given as goal

abbrev pub invariant-loop-put : goal.invariant-loop-put
invariant-loop-put l = Gone l.s l.records l.initial.out l.at l.used l.n l.put l.out

abbrev pub decreases-loop-put : goal.decreases-loop-put
decreases-loop-put l = length l.s - l.used
