-- `mate_text::trail_rest`: the scan has come from the place given to the byte that is read next.
use Rattle.mate_text.proofs.Trails.{Come}
use Rattle.mate_text.proofs.trail_rest.Given as goal

abbrev pub invariant-loop-i : goal.invariant-loop-i
invariant-loop-i l = Come l.text l.found l.fn.run.0 l.from l.run.0 l.i
