-- The two bytes of the name.
use Prim.Native.Nat.{◌+◌}
use mathlib.Core.Path.{refl}
use native.Mathlib.Omega.{arith}
use lib.ListN.{drop}
use borrow.Author.Tests.{eq-eqb, ne_eqb}
use Rattle.sam.specs.Tags.{tag_at, is_cg}
use Rattle.sam.proofs.TagLaws.{byte, whole}
use Rattle.tag_walk.proofs.is_cg.Goals as goal

pub returns-else-b-at-eq67 : goal.returns-else-b-at-eq67
unfolding is_cg tag_at
returns-else-b-at-eq67 c =
    simp (byte c.args.b.now c.args.at 0 c.args.at (omega arith), ne_eqb _ 67 c.if-b-at-eq67.false)

pub bounds-b-at-then-b-at-eq67 : goal.bounds-b-at-then-b-at-eq67
bounds-b-at-then-b-at-eq67 c =
    let w = whole (drop c.args.at c.args.b.now) c.requires.nonzero in
    omega (arith, w.0, c.requires.b_in_bounds)

pub returns-then-b-at-eq67 : goal.returns-then-b-at-eq67
unfolding is_cg tag_at
returns-then-b-at-eq67 c =
    simp (byte c.args.b.now c.args.at 0 c.args.at (omega arith), eq-eqb _ 67 c.if-b-at-eq67.true, byte c.args.b.now c.args.at 1 (c.args.at + 1) refl)
