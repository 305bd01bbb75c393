-- Front, ops, tail.
use Prim.Native.Nat.{◌+◌}
use native.Mathlib.Omega.{arith}
use lib.ListN.{length}
use Rattle.record_write.proofs.RecordLaws.{front_fit, ops_fit, tail_room, record_is}
use Rattle.record_write.proofs.write_record.Goals as goal

pub put_front-requires-clause-rec_in_bounds : goal.put_front-requires-clause-rec_in_bounds
put_front-requires-clause-rec_in_bounds c =
    let m = front_fit c.args.rec.now c.args.start c.args.p c.requires.fits (length c.args.out.now) c.requires.p_in_bounds in
    m

pub put_ops-requires-clause-skip_in_bounds : goal.put_ops-requires-clause-skip_in_bounds
put_ops-requires-clause-skip_in_bounds c =
    let m = ops_fit c.args.rec.now c.args.start c.args.p c.requires.fits (length c.args.out.now) (32 + c.u8_at.result) c.u16_at-n.result c.requires.p_in_bounds (omega arith) (omega arith) in
    omega (arith, m.2)

pub put_tail-requires-clause-rec_in_bounds_2 : goal.put_tail-requires-clause-rec_in_bounds_2
put_tail-requires-clause-rec_in_bounds_2 c =
    tail_room c.args.rec.now c.args.start c.args.p c.requires.fits c.args.out.now _ _ (32 + c.u8_at.result) c.u16_at-n.result (omega arith) (omega arith) c.requires.p_in_bounds (c.put_front.ensures c.args.start) c.put_ops.ensures

pub returns : goal.returns
returns c =
    record_is c.args.rec.now c.args.start c.args.p c.requires.fits c.args.out.now _ _ _ (32 + c.u8_at.result) c.u16_at-n.result (omega arith) (omega arith) c.requires.p_in_bounds
    (c.put_front.ensures c.args.start) c.put_ops.ensures c.put_tail.ensures
