-- The bytes so far and those that are left are all bytes, and no code so far is bad.
use Prim.Native.Nat.{◌%◌, ◌≤◌, ◌<◌}
use Rattle.std.specs.Prelude.{Some}
use mathlib.Core.Path.{◌≡◌, refl, sym, ap, ◌∙◌}
use native.Mathlib.Omega.{arith}
use mathlib.Core.Bool.{true}
use lib.ListN.{length}
use borrow.Author.Tests.{lt-ltb, le-ltb}
use Rattle.print_rules.specs.Text.{any_bad}
use Rattle.print_rules.specs.Inner.{room_of}
use Rattle.print_rules.proofs.PrintLaws.{op_text_length, length_step, bad_step, text_done, bad_done}
use Rattle.print.proofs.room_for.Goals as goal

pub returns-then-op-gt8 : goal.returns-then-op-gt8
unfolding room_of
returns-then-op-gt8 g c =
    let xs = g.L.OpList.ops c.args.list in
    let e = bad_step xs c.loop-i.i c.op-op.result c.op-op.ensures (omega arith) in
    let b : any_bad xs ≡ true = sym c.loop-i.invariant.2 ∙ e ∙ rw (lt-ltb 8 (c.op-op.result % 16) c.if-op-gt8.true) in
    rw b

pub loop-i-preserved : goal.loop-i-preserved
loop-i-preserved g c =
    let xs = g.L.OpList.ops c.args.list in
    let h : c.loop-i.i < length xs = omega arith in
    let e = bad_step xs c.loop-i.i c.op-op.result c.op-op.ensures h in
    let n = length_step xs c.loop-i.i c.op-op.result c.op-op.ensures h in
    let w = op_text_length c.op-op.result c.width.result c.width.ensures in (
      omega (arith, c.width.ensures),
      omega arith,
      sym (e ∙ rw (le-ltb 8 (c.op-op.result % 16) c.if-op-gt8.false) refl) ∙ c.loop-i.invariant.2,
    )

pub returns : goal.returns
unfolding room_of
returns g c =
    let xs = g.L.OpList.ops c.args.list in
    let h : length xs ≤ c.loop-i.i = omega arith in
    let z = ap length (text_done xs c.loop-i.i h) in
    rw (sym c.loop-i.invariant.2 ∙ bad_done xs c.loop-i.i h) (ap Some (omega arith))
