-- What is left to store at i is all that is to be stored.
use Prim.Native.Nat.{◌<◌}
use mathlib.Core.Path.{sym, ap, ◌∙◌}
use native.Mathlib.Omega.{arith}
use lib.ListN.{length}
use lib.Seq.{sets}
use Rattle.print_rules.proofs.PrintLaws.{length_step, text_turn, text_done}
use Rattle.print.proofs.put_text.Goals as goal

pub put_op-at-requires : goal.put_op-at-requires
put_op-at-requires g c =
    let xs = g.L.OpList.ops c.args.list in
    let n = length_step xs c.loop-i.i c.op.result c.op.ensures (omega arith) in
    omega (arith, c.loop-i.invariant)

pub loop-i-preserved : goal.loop-i-preserved
loop-i-preserved g c =
    let xs = g.L.OpList.ops c.args.list in
    let h : c.loop-i.i < length xs = omega arith in
    let n = length_step xs c.loop-i.i c.op.result c.op.ensures h in (
      c.put_op-at.auto.out ∙ c.loop-i.invariant.0,
      omega (arith, c.put_op-at.ensures.value, c.loop-i.invariant),
      cc (text_turn xs c.loop-i.i c.op.result c.op.ensures h c.loop-i.out c.loop-i.at, c.put_op-at.ensures.value, c.put_op-at.ensures.out_after, c.loop-i.invariant.2),
    )

pub returns : goal.returns
returns g c =
    let xs = g.L.OpList.ops c.args.list in
    ap (sets c.loop-i.out c.loop-i.at) (sym (text_done xs c.loop-i.i (omega arith))) ∙ c.loop-i.invariant.2
