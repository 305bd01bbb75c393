-- A refusal is the plan's; else the received record is weighed.
use Rattle.std.proofs.Common.{rules, ◌≡◌, Err}
use mathlib.Core.Path.{sym, subst, ◌∙◌}
use native.Mathlib.Omega.{arith}
use Rattle.record_rules.specs.Clipping.{clipped_fate}
use Rattle.record_rules.specs.InnerPlan.{FateIs, change_by}
use Rattle.record_rules.proofs.PlanLaws.{ops_left}
use Rattle.receive_rules.proofs.CallLaws.{becomes_is, refuses_is, few_ops}
use Rattle.receive.proofs.check_clipped.Goals as goal

pub weigh-requires-clause-n_bound : goal.weigh-requires-clause-n_bound
weigh-requires-clause-n_bound c =
    let a = c.args in
    let made = subst (FateIs a.sent.now a.start (clipped_fate a.sent.now a.amount a.start)) c.in_ok-p.was c.plan_record.ensures in
    let l = ops_left a.sent.now a.start c.in_ok-p.p made.1 in
    omega (arith, few_ops a.sent.now a.amount a.start (change_by a.sent.now a.start c.in_ok-p.p) made.0)

pub returns : goal.returns
returns c =
    let a = c.args in
    let made = subst (FateIs a.sent.now a.start (clipped_fate a.sent.now a.amount a.start)) c.in_ok-p.was c.plan_record.ensures in
    c.weigh.ensures ∙ sym (becomes_is a.received.now a.sent.now made.0)

pub returns-in_err-p : goal.returns-in_err-p
returns-in_err-p c =
    let a = c.args in
    let passed : c.from_residual.result ≡ Err c.in_err-p.field-0.0 = search rules in
    passed ∙ sym (refuses_is a.received.now a.sent.now (subst (FateIs a.sent.now a.start (clipped_fate a.sent.now a.amount a.start)) c.in_err-p.was c.plan_record.ensures))
