use Rattle.std.proofs.Common.{ℕ, List, ◌≡◌, ◌-◌, length, pos, negsuc, arith, refl, sym, subst}
use borrow.Rule.Slice.PartMut.{take_put}
use Rattle.std.specs.Io.KnownBytes.{Consumes}
use Rattle.blocks.proofs.BlockLaws.{filled_some, filled_none, given_read}
use Rattle.blocks.proofs.fill.Goals as goal

pub returns-in-Ok-eq0-clause-filled : goal.returns-in-Ok-eq0-clause-filled
returns-in-Ok-eq0-clause-filled g c = filled_none _ _ c.args.have (pos 0) (omega arith) (omega (arith, c.requires)) (take_put c.args.have (length c.args.block.now - c.args.have) c.args.block.now c.read.new.buf c.requires)

pub returns-in-Ok-clause-filled : goal.returns-in-Ok-clause-filled
returns-in-Ok-clause-filled g c =
    let block = c.args.block.now in
    let new = c.read.new.buf in
    let room : length new ≡ length block - c.args.have = omega (arith, c.requires) in
    filled_some block new _ c.args.have c.in-Ok.n c.in-Ok.ensures.bound.0 room (omega (arith, room, c.requires)) (take_put c.args.have (length block - c.args.have) block new c.requires) c.in-Ok.n-test.1

pub returns-in-Ok-clause-bytes : goal.returns-in-Ok-clause-bytes
returns-in-Ok-clause-bytes g c =
    subst (Consumes _ _) (sym (given_read c.args.block.now c.read.new.buf _ c.args.have c.in-Ok.n c.in-Ok.ensures.bound.0 c.requires _ (refl {A = List ℕ}))) c.in-Ok.ensures.bytes.0

pub returns-in-Err-clause-filled : goal.returns-in-Err-clause-filled
returns-in-Err-clause-filled g c = filled_none _ _ c.args.have (negsuc 0) refl (omega (arith, c.requires)) (take_put c.args.have (length c.args.block.now - c.args.have) c.args.block.now c.read.new.buf c.requires)
