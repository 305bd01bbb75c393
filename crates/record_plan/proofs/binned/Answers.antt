-- With a bin the plan is made; else the bin's refusal.
use Rattle.std.proofs.Common.{rules, Err}
use mathlib.Core.Path.{◌≡◌, sym, subst⁻¹, ◌∙◌}
use native.Mathlib.Omega.{arith}
use mir.Facts.{to_z-of_z}
use Rattle.oplist.specs.Ops.{record_ops}
use Rattle.record_rules.specs.Clipping.{bin_at, binned}
use Rattle.record_rules.specs.InnerPlan.{planned_ops, FateIs}
use Rattle.record_rules.proofs.PlanLaws.{binned_is, binned_not}
use Rattle.record_plan.proofs.binned.Goals as goal

pub returns : goal.returns
returns c =
    let e : c.bin_at.result ≡ bin_at c.args.z c.args.refs = simp (to_z-of_z c.ranges.z) at c.bin_at.ensures in (
      binned_is c.args.bam.now (planned_ops c.args.start (record_ops c.args.bam.now) c.args.p) c.args.start c.args.count c.args.z (bin_at c.args.z c.args.refs) _ _ _ _ (to_z-of_z c.ranges.z) (sym e ∙ c.in_ok-bin.was) c.new_len-len.ensures.0 c.first_kept-from.ensures.0,
      record {
        whole = c.requires.bam_in_bounds;
        heads_in = c.requires.heads_bound;
        skip_in = c.requires.skip_bound;
        n-is = omega arith;
        bases_in = c.first_kept-from.ensures.1;
      },
    )

pub returns-in_err-bin : goal.returns-in_err-bin
returns-in_err-bin c =
    let passed : c.from_residual.result ≡ Err c.in_err-bin.field-0.0 = search rules in
    let e : c.bin_at.result ≡ bin_at c.args.z c.args.refs = simp (to_z-of_z c.ranges.z) at c.bin_at.ensures in
    let left = planned_ops c.args.start (record_ops c.args.bam.now) c.args.p in
    subst⁻¹ (FateIs c.args.bam.now c.args.start (binned c.args.bam.now left c.args.start c.args.count c.args.z (bin_at c.args.z c.args.refs))) passed
    (binned_not c.args.bam.now left c.args.start c.args.count c.args.z (bin_at c.args.z c.args.refs) _ (sym e ∙ c.in_err-bin.was))
