-- The same at the end, where the answer leaves the count out.
use Rattle.std.proofs.Common.{rules, ◌≡◌, Err}
use mathlib.Core.Path.{refl, ap, subst}
use mathlib.Core.Bool.{false}
use Rattle.answers.proofs.Unique.{settled, resettled}
use Rattle.clip_rules.specs.Answer.{without_count}
use Rattle.record_rules.specs.Clipping.{clipped_fate}
use Rattle.record_rules.specs.InnerPlan.{FateIs}
use Rattle.record_rules.proofs.PlanLaws.{becomes_is, refuses_is}
use Rattle.record_write.proofs.clip_record_end.Goals as goal

pub returns : goal.returns
returns c =
    let made = subst (FateIs c.args.bam.now false (clipped_fate c.args.bam.now c.args.amount false)) c.in_ok-p.was c.plan_record.ensures in
    resettled (ap without_count (becomes_is c.args.bam.now c.args.out.now made.0)) c.put_end.ensures

pub returns-in_err-p : goal.returns-in_err-p
returns-in_err-p c =
    let passed : c.from_residual.result ≡ Err c.in_err-p.field-0.0 = search rules in
    let refused = subst (FateIs c.args.bam.now false (clipped_fate c.args.bam.now c.args.amount false)) c.in_err-p.was c.plan_record.ensures in
    resettled refl (rw passed (settled (ap without_count (refuses_is c.args.bam.now c.args.out.now refused))))
