-- What is written grows by blocks, and the last one ends it.
use Rattle.std.proofs.Common.{◌*◌, ◌-◌, length}
use mathlib.Core.Path.{sym, ◌∙◌}
use native.Mathlib.Omega.{arith}
use Rattle.lists.proofs.ListLaws.{splice_nil}
use Rattle.record_bases.proofs.PackLaws.{shifted_block, shifted_whole}
use Rattle.record_bases.proofs.put_shifted.Goals as goal

pub loop-i-init : goal.loop-i-init
loop-i-init c = sym (splice_nil _ _)

pub loop-i-preserved : goal.loop-i-preserved
loop-i-preserved c =
    shifted_block c.args.bases.now c.args.out.now _ _ (16 * c.loop-i.i) (16 * c.loop-i.i) _ (omega arith) (omega arith) (omega arith) (omega arith) (omega arith) (omega arith) c.loop-i.invariant c.shift_sixteen.ensures

pub returns : goal.returns
returns c =
    shifted_block c.args.bases.now c.args.out.now _ _ (16 * c.loop-i.i) (length c.args.out.now - 16) (length c.args.out.now) (omega arith) (omega arith) (omega arith) (omega arith) (omega arith) (omega arith) c.loop-i.invariant c.shift_sixteen-2.ensures
    ∙ shifted_whole c.args.bases.now c.args.out.now (omega arith)
