-- A part of the list is written.
use mathlib.Core.Path.{◌∙◌}
use native.Mathlib.Omega.{arith}
use Rattle.record_parts.proofs.PutLaws.{part_copied}
use Rattle.record_parts.proofs.copy_block.Goals as goal

pub returns : goal.returns
returns g c =
    part_copied c.args.to.now c.args.from.now _ c.args.at c.args.at g.row.N _ _ (omega arith) (omega arith) (omega arith) (c.copy_from_slice-2.ensures.after ∙ c.copy_from_slice.ensures.after)
