-- The first and the last of the bytes, which meet or overlap.
use Rattle.std.proofs.Common.{◌-◌, length}
use native.Mathlib.Omega.{arith}
use Rattle.record_parts.proofs.PutLaws.{two_blocks}
use Rattle.record_parts.proofs.copy_ends.Goals as goal

pub returns : goal.returns
returns g c =
    two_blocks c.args.to.now _ _ c.args.from.now g.row.N (length c.args.from.now - g.row.N) g.row.N (omega arith) (omega arith) (omega arith) (omega arith) c.copy_block.ensures c.copy_block-2.ensures
