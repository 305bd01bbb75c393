-- The tests in their order, and then what the plan of the ops comes to.
use Prim.Native.Nat.{ℕ, ◌≤◌}
use Rattle.std.specs.Prelude.{Ok, Err}
use Rattle.std.proofs.Common.{rules, ◌≡◌}
use mathlib.Core.Path.{sym, ap, subst⁻¹, ◌∙◌}
use mathlib.Core.List.{List}
use native.Mathlib.Omega.{arith}
use lib.ListN.{length}
use Rattle.sam.specs.Record.{tags_start}
use Rattle.oplist.specs.Ops.{record_ops}
use Rattle.clip_rules.specs.InnerPlan.{PlannedIs}
use Rattle.record_rules.specs.Clipping.{counted, start_count, clipped_fate}
use Rattle.record_rules.specs.InnerPlan.{FateIs}
use Rattle.record_rules.proofs.PlanLaws.{refated, ops_count, planned_is, count-is, refs_are, skip_fits, short_is, overrun-is, refused-is, within-is}
use Rattle.record_plan.proofs.plan_record.Goals as goal

pub returns-then-bam-lt32 : goal.returns-then-bam-lt32
returns-then-bam-lt32 c =
    short_is c.args.bam.now c.args.amount c.args.start c.if-bam-lt32.true

pub returns-then-bam-tags_start : goal.returns-then-bam-tags_start
returns-then-bam-tags_start c =
    overrun-is c.args.bam.now c.args.amount c.args.start (omega arith) (omega arith)

pub counted-requires-clause-skip_bound : goal.counted-requires-clause-skip_bound
counted-requires-clause-skip_bound c =
    let o = c.of_record-list.ensures in
    let made : PlannedIs (length (record_ops c.args.bam.now)) (record_ops c.args.bam.now) c.args.amount c.args.start (Ok c.in_ok-p.p) =
    rw (c.count.ensures.value ∙ ap length o, o) at c.in_ok-p.ensures
    in
    let whole : tags_start c.args.bam.now ≤ length c.args.bam.now =
    omega arith
    in
    let P = made.2.1 in
    let n = ops_count c.args.bam.now whole in
    let k = skip_fits (record_ops c.args.bam.now) c.args.start c.args.amount c.in_ok-p.p P in
    omega arith

pub counted-requires-clause-bam_value : goal.counted-requires-clause-bam_value
counted-requires-clause-bam_value c =
    let o = c.of_record-list.ensures in
    let made : PlannedIs (length (record_ops c.args.bam.now)) (record_ops c.args.bam.now) c.args.amount c.args.start (Ok c.in_ok-p.p) =
    rw (c.count.ensures.value ∙ ap length o, o) at c.in_ok-p.ensures
    in
    let whole : tags_start c.args.bam.now ≤ length c.args.bam.now =
    omega arith
    in
    let P = made.2.1 in
    let n = ops_count c.args.bam.now whole in
    let k = skip_fits (record_ops c.args.bam.now) c.args.start c.args.amount c.in_ok-p.p P in
    refs_are (record_ops c.args.bam.now) c.args.start c.args.amount c.in_ok-p.p P

pub returns : goal.returns
returns c =
    let o = c.of_record-list.ensures in
    let made : PlannedIs (length (record_ops c.args.bam.now)) (record_ops c.args.bam.now) c.args.amount c.args.start (Ok c.in_ok-p.p) =
    rw (c.count.ensures.value ∙ ap length o, o) at c.in_ok-p.ensures
    in
    let long : 32 ≤ length c.args.bam.now =
    omega arith
    in
    let whole : tags_start c.args.bam.now ≤ length c.args.bam.now =
    omega arith
    in
    let xs = record_ops c.args.bam.now in
    let P = made.2.1 in
    refated c.args.bam.now c.args.start
    (within-is c.args.bam.now c.args.amount c.args.start (long) whole made.1 made.2.0
    ∙ ap (λ (ys : List ℕ). counted c.args.bam.now ys c.args.start (start_count xs c.args.amount c.args.start)) (sym (planned_is xs c.args.start c.args.amount c.in_ok-p.p P))
    ∙ ap (counted c.args.bam.now _ c.args.start) (sym (count-is xs c.args.start c.args.amount c.in_ok-p.p P)))
    c.counted.result
    c.counted.ensures

pub returns-in_err-p : goal.returns-in_err-p
returns-in_err-p c =
    let passed : c.from_residual.result ≡ Err c.in_err-p.field-0.0 = search rules in
    let o = c.of_record-list.ensures in
    let refused : PlannedIs (length (record_ops c.args.bam.now)) (record_ops c.args.bam.now) c.args.amount c.args.start (Err c.in_err-p.field-0.0) =
    rw (c.count.ensures.value ∙ ap length o, o) at c.in_err-p.ensures
    in
    subst⁻¹ (FateIs c.args.bam.now c.args.start (clipped_fate c.args.bam.now c.args.amount c.args.start)) passed
    (refused-is c.args.bam.now c.args.amount c.args.start (omega arith) (omega arith) _ refused)
