-- The cases of the definition.
use mathlib.Core.Path.{◌∙◌}
use native.Mathlib.Omega.{arith}
use mir.Syntax.{w32}
use mir.Facts.{to_z-of_z, to_z_pos}
use Rattle.record_rules.proofs.PlanLaws.{bin_before, bin_behind}
use Rattle.record_plan.proofs.bin_at.Goals as goal

pub returns-then-z-lt0 : goal.returns-then-z-lt0
returns-then-z-lt0 c =
    bin_before c.args.z c.args.refs (simp (to_z-of_z c.ranges.z) at c.if-z-lt0.true)

pub returns : goal.returns
returns c =
    (simp (to_z-of_z c.ranges.z, to_z_pos w32 {n = c.args.refs} (omega arith)) at c.bin_from.ensures)
    ∙ bin_behind c.args.z c.args.refs (simp (to_z-of_z c.ranges.z) at c.if-z-lt0.false) (omega arith)
