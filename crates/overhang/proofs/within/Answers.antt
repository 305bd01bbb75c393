-- What is counted and what is left to count, over the room that is left, make the whole count.
use Rattle.overhang_rules.proofs.Mirror.{room_done, room_out, room-turn}
use native.Mathlib.Omega.{arith}
use Rattle.overhang.proofs.within.Goals as goal

pub returns-then-left-span : goal.returns-then-left-span
returns-then-left-span g c =
    let xs = g.L.OpList.ops c.args.list in
    let z = room_out xs c.loop-i.i c.loop-i.left _ c.op-op.ensures (omega arith) (omega (arith, c.ref_len-span.ensures.0)) in
    omega (arith, z, c.covered.ensures.0)

pub loop-i-preserved : goal.loop-i-preserved
loop-i-preserved g c =
    let xs = g.L.OpList.ops c.args.list in
    let z = room-turn xs c.loop-i.i c.loop-i.left _ c.op-op.ensures (omega arith) (omega arith) in
    (omega arith, rw c.ref_len-span.ensures.0 (omega (arith, z, c.query_len-bases.ensures.0)))

pub returns : goal.returns
returns g c =
    let xs = g.L.OpList.ops c.args.list in
    let z = room_done xs c.loop-i.i c.loop-i.left (omega arith) in
    omega (arith, z)
