use Rattle.std.proofs.Common.{sym, ◌∙◌}
use Rattle.bam_header.proofs.HeadLaws.{went}
use Rattle.bam_header.proofs.read_on.Goals as goal

pub returns : goal.returns
returns c = went c.args.s.now c.args.from (record { used = c.loop-step.used; place = c.loop-step.place }) c.loop-step.invariant (sym c.ready.ensures ∙ c.loop-step-test.false)
