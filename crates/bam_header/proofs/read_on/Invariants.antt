use Rattle.std.proofs.Common.{◌-◌, length}
use Rattle.bam_header.specs.Inner.{HeadGone}
use Rattle.bam_header.proofs.read_on.Given as goal

-- Each turn goes on from the place reached.
abbrev pub invariant-loop-step : goal.invariant-loop-step
invariant-loop-step l = HeadGone l.s l.fn.from (record { used = l.used; place = l.place })

abbrev pub decreases-loop-step : goal.decreases-loop-step
decreases-loop-step l = length l.s - l.used
