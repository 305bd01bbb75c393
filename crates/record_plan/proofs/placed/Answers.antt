-- The sum fits or not.
use Rattle.std.proofs.Common.{rules, Err, Some, None}
use Rattle.answers.specs.declared.Refusal.TheVariants.{Overflow}
use mathlib.Core.Path.{◌≡◌, sym, subst⁻¹, ◌∙◌}
use native.Mathlib.Omega.{arith}
use lib.IntN.{pos, ◌+ℤ◌}
use mir.Syntax.{w32}
use mir.Val.{to_z, of_z}
use mir.Facts.{to_z_pos}
use Rattle.signed.specs.Whole.{checked}
use Rattle.sam.specs.Record.{pos_of}
use Rattle.oplist.specs.Ops.{record_ops}
use Rattle.record_rules.specs.InnerPlan.{planned_ops, FateIs}
use Rattle.record_rules.specs.Clipping.{placed}
use Rattle.record_rules.proofs.PlanLaws.{refated, placed_is, placed_not}
use Rattle.record_plan.proofs.placed.Goals as goal

pub returns : goal.returns
returns c =
    let summed : c.checked_add.result ≡ checked (pos_of c.args.bam.now +ℤ pos c.args.count) =
    let e : to_z w32 (of_z w32 c.i32_at-place.result) ≡ c.i32_at-place.result = search rules in
    simp (e ∙ c.i32_at-place.ensures, to_z_pos w32 {n = c.args.count} (omega arith)) at c.checked_add.ensures
    in
    let some : c.checked_add.result ≡ Some c.in_ok-z.z = search rules in
    let e : to_z w32 (of_z w32 c.in_ok-z.z) ≡ c.in_ok-z.z = search rules in
    refated c.args.bam.now c.args.start
    (placed_is c.args.bam.now (planned_ops c.args.start (record_ops c.args.bam.now) c.args.p) c.args.start c.args.count (checked (pos_of c.args.bam.now +ℤ pos c.args.count)) c.in_ok-z.z c.args.refs (sym summed ∙ some) c.requires.refs_value)
    c.binned.result
    (simp e at c.binned.ensures)

pub returns-in_err-z : goal.returns-in_err-z
returns-in_err-z c =
    let summed : c.checked_add.result ≡ checked (pos_of c.args.bam.now +ℤ pos c.args.count) =
    let e : to_z w32 (of_z w32 c.i32_at-place.result) ≡ c.i32_at-place.result = search rules in
    simp (e ∙ c.i32_at-place.ensures, to_z_pos w32 {n = c.args.count} (omega arith)) at c.checked_add.ensures
    in
    let none : c.checked_add.result ≡ None = search rules in
    let passed : c.from_residual.result ≡ Err Overflow = search rules in
    let left = planned_ops c.args.start (record_ops c.args.bam.now) c.args.p in
    let sum = checked (pos_of c.args.bam.now +ℤ pos c.args.count) in
    subst⁻¹ (FateIs c.args.bam.now c.args.start (placed c.args.bam.now left c.args.start c.args.count sum)) passed
    (placed_not c.args.bam.now left c.args.start c.args.count sum (sym summed ∙ none))
