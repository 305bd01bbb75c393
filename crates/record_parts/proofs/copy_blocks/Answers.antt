-- What is copied grows by blocks, and the last one ends it.
use Rattle.std.proofs.Common.{◌*◌, ◌-◌, length}
use mathlib.Core.Path.{sym}
use native.Mathlib.Omega.{arith}
use Rattle.lists.proofs.ListLaws.{splice_nil}
use Rattle.record_parts.proofs.PutLaws.{blocks, two_blocks}
use Rattle.record_parts.proofs.copy_blocks.Goals as goal

pub loop-i-init : goal.loop-i-init
loop-i-init c = sym (splice_nil _ _)

pub loop-i-preserved : goal.loop-i-preserved
loop-i-preserved c =
    blocks c.args.to.now _ _ c.args.from.now (16 * c.loop-i.i) (16 * c.loop-i.i) 16 _ (omega arith) (omega arith) (omega arith) (omega arith) (omega arith) c.loop-i.invariant c.copy_block.ensures

pub returns : goal.returns
returns c =
    two_blocks c.args.to.now _ _ c.args.from.now (16 * c.loop-i.i) (length c.args.from.now - 16) 16 (omega arith) (omega arith) (omega arith) (omega arith) c.loop-i.invariant c.copy_block-2.ensures
