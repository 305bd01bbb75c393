-- A refusal is the plan's; else the record is written.
use Rattle.std.proofs.Common.{rules, ◌≡◌, Err}
use mathlib.Core.Path.{refl, subst}
use mathlib.Core.Bool.{true}
use Rattle.answers.proofs.Unique.{settled, resettled}
use Rattle.record_rules.specs.Clipping.{clipped_fate}
use Rattle.record_rules.specs.InnerPlan.{FateIs}
use Rattle.record_rules.proofs.PlanLaws.{becomes_is, refuses_is}
use Rattle.record_write.proofs.clip_record_start.Goals as goal

pub returns : goal.returns
returns c =
    let made = subst (FateIs c.args.bam.now true (clipped_fate c.args.bam.now c.args.amount true)) c.in_ok-p.was c.plan_record.ensures in
    resettled (becomes_is c.args.bam.now c.args.out.now made.0) c.put_start.ensures

pub returns-in_err-p : goal.returns-in_err-p
returns-in_err-p c =
    let passed : c.from_residual.result ≡ Err c.in_err-p.field-0.0 = search rules in
    let refused = subst (FateIs c.args.bam.now true (clipped_fate c.args.bam.now c.args.amount true)) c.in_err-p.was c.plan_record.ensures in
    resettled refl (rw passed (settled (refuses_is c.args.bam.now c.args.out.now refused)))
