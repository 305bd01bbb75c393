-- What is counted and what is left to count make the whole count over places, which is the definition's over positions.
use mathlib.Core.Path.{◌≡◌, sym, ◌∙◌}
use Prim.Native.Nat.{◌+◌, min}
use lib.ListN.{drop}
use mir.Syntax.{w32}
use mir.Val.{to_z, of_z, SFits}
use Rattle.signed.specs.Whole.{raised}
use Rattle.sam.specs.Op.{ref_len}
use Rattle.overhang_rules.specs.Reach.{bases_up_to}
use Rattle.overhang_rules.proofs.ReachLaws.{up_to_place, place_is, up_past, up_done, up-cut, up_turn}
use borrow.Author.Rules.{rules}
use native.Mathlib.Omega.{arith}
use Rattle.overhang.proofs.bases_up_to.Goals as goal

pub returns-then-last-place : goal.returns-then-last-place
returns-then-last-place g c =
    let whole : let xs = g.L.OpList.ops c.args.list in c.loop-i.bases + up_to_place c.args.on c.raise-last.result c.loop-i.place (drop c.loop-i.i xs) ≡ bases_up_to c.args.on c.args.target.0 c.args.start.0 xs =
    let e : to_z w32 (of_z w32 c.args.target.0) ≡ c.args.target.0 = search rules in
    let f : to_z w32 (of_z w32 c.args.start.0) ≡ c.args.start.0 = search rules in
    let g : SFits w32 c.args.target.0 = search rules in
    let h : SFits w32 c.args.start.0 = search rules in
    let t : c.raise-last.result ≡ raised c.args.target.0 = simp e at c.raise-last.ensures.0 in
    let p : c.raise-place.result ≡ raised c.args.start.0 = simp f at c.raise-place.ensures.0 in
    c.loop-i.invariant.2 ∙ rw (t, p) (place_is c.args.on c.args.target.0 c.args.start.0 _ g h)
    in
    let xs = g.L.OpList.ops c.args.list in
    let z = up_past c.args.on c.raise-last.result c.loop-i.place (drop c.loop-i.i xs) 0 (omega arith) in
    omega (arith, whole)

pub returns-then-reaches_past : goal.returns-then-reaches_past
returns-then-reaches_past g c =
    let whole : let xs = g.L.OpList.ops c.args.list in c.loop-i.bases + up_to_place c.args.on c.raise-last.result c.loop-i.place (drop c.loop-i.i xs) ≡ bases_up_to c.args.on c.args.target.0 c.args.start.0 xs =
    let e : to_z w32 (of_z w32 c.args.target.0) ≡ c.args.target.0 = search rules in
    let f : to_z w32 (of_z w32 c.args.start.0) ≡ c.args.start.0 = search rules in
    let g : SFits w32 c.args.target.0 = search rules in
    let h : SFits w32 c.args.start.0 = search rules in
    let t : c.raise-last.result ≡ raised c.args.target.0 = simp e at c.raise-last.ensures.0 in
    let p : c.raise-place.result ≡ raised c.args.start.0 = simp f at c.raise-place.ensures.0 in
    c.loop-i.invariant.2 ∙ rw (t, p) (place_is c.args.on c.args.target.0 c.args.start.0 _ g h)
    in
    let xs = g.L.OpList.ops c.args.list in
    let z = up-cut c.args.on c.raise-last.result c.loop-i.place xs c.loop-i.i _ c.op-op.ensures (omega arith) (omega arith) (sym c.reaches_past.ensures ∙ c.if-reaches_past.true) in
    omega (arith, whole)

pub loop-i-preserved : goal.loop-i-preserved
loop-i-preserved g c =
    let xs = g.L.OpList.ops c.args.list in
    let z = up_turn c.args.on c.raise-last.result c.loop-i.place xs c.loop-i.i _ c.op-op.ensures (omega arith) (omega arith) (sym c.reaches_past.ensures ∙ c.if-reaches_past.false) in
    let m : c.place_after-place.result ≡ min (c.loop-i.place + ref_len c.op-op.result) 4294967295 = rw (← c.ref_len.ensures.0) c.place_after-place.ensures in
    (omega arith, omega arith, rw m (omega (arith, c.query_len-bases.ensures.0)))

pub returns : goal.returns
returns g c =
    let whole : let xs = g.L.OpList.ops c.args.list in c.loop-i.bases + up_to_place c.args.on c.raise-last.result c.loop-i.place (drop c.loop-i.i xs) ≡ bases_up_to c.args.on c.args.target.0 c.args.start.0 xs =
    let e : to_z w32 (of_z w32 c.args.target.0) ≡ c.args.target.0 = search rules in
    let f : to_z w32 (of_z w32 c.args.start.0) ≡ c.args.start.0 = search rules in
    let g : SFits w32 c.args.target.0 = search rules in
    let h : SFits w32 c.args.start.0 = search rules in
    let t : c.raise-last.result ≡ raised c.args.target.0 = simp e at c.raise-last.ensures.0 in
    let p : c.raise-place.result ≡ raised c.args.start.0 = simp f at c.raise-place.ensures.0 in
    c.loop-i.invariant.2 ∙ rw (t, p) (place_is c.args.on c.args.target.0 c.args.start.0 _ g h)
    in
    let xs = g.L.OpList.ops c.args.list in
    let z = up_done c.args.on c.raise-last.result c.loop-i.place xs c.loop-i.i (omega arith) in
    omega (arith, whole)
