-- The tests are the definition's; the numbers are those of the bytes behind the place.
use Prim.Native.Nat.{◌+◌}
use mathlib.Core.Path.{refl, sym, ◌∙◌}
use native.Mathlib.Omega.{arith}
use lib.ListN.{drop}
use Rattle.sam.specs.Record.{le32}
use Rattle.sam.proofs.TagLaws.{byte, number, whole}
use Rattle.sam.proofs.TagArrayLaws.{array-fits}
use Rattle.tag_rules.proofs.WalkLaws.{kind_other, numbers-other, list-long, list_is}
use Rattle.tag_rules.proofs.ListLaws.{same_list}
use Rattle.tag_walk.proofs.list_in.Goals as goal

pub bounds-b-at : goal.bounds-b-at
bounds-b-at c =
    let w = whole (drop c.args.at c.args.b.now) c.requires.nonzero in
    omega (arith, w.0, c.requires.b_in_bounds)

pub returns-then-b-at-ne66 : goal.returns-then-b-at-ne66
returns-then-b-at-ne66 c =
    let s = drop c.args.at c.args.b.now in
    sym (kind_other (c.args.at + 3) s c.requires.nonzero (λ z. c.if-b-at-ne66.true (sym (byte c.args.b.now c.args.at 2 (c.args.at + 2) refl) ∙ z)))

pub bounds-b-at-2 : goal.bounds-b-at-2
bounds-b-at-2 c =
    let s = drop c.args.at c.args.b.now in
    let f = array-fits s c.requires.nonzero (byte c.args.b.now c.args.at 2 (c.args.at + 2) refl ∙ c.if-b-at-ne66.false) in
    omega (arith, c.requires.b_in_bounds)

pub returns-then-b-at-ne73 : goal.returns-then-b-at-ne73
returns-then-b-at-ne73 c =
    let s = drop c.args.at c.args.b.now in
    sym (numbers-other (c.args.at + 3) s c.requires.nonzero (byte c.args.b.now c.args.at 2 (c.args.at + 2) refl ∙ c.if-b-at-ne66.false) (λ z. c.if-b-at-ne73.true (sym (byte c.args.b.now c.args.at 3 (c.args.at + 3) refl) ∙ z)))

pub u32_at-n-requires : goal.u32_at-n-requires
u32_at-n-requires c =
    let s = drop c.args.at c.args.b.now in
    let f = array-fits s c.requires.nonzero (byte c.args.b.now c.args.at 2 (c.args.at + 2) refl ∙ c.if-b-at-ne66.false) in
    omega (arith, c.requires.b_in_bounds)

pub returns-then-n-gt-MOST_LONG_OPS : goal.returns-then-n-gt-MOST_LONG_OPS
returns-then-n-gt-MOST_LONG_OPS c =
    let s = drop c.args.at c.args.b.now in
    let e = number c.args.b.now c.args.at 4 (c.args.at + 4) refl in
    sym (list-long (c.args.at + 3) s c.requires.nonzero (byte c.args.b.now c.args.at 2 (c.args.at + 2) refl ∙ c.if-b-at-ne66.false) (byte c.args.b.now c.args.at 3 (c.args.at + 3) refl ∙ c.if-b-at-ne73.false) (omega (arith, c.u32_at-n.ensures)))

pub returns : goal.returns
returns c =
    let s = drop c.args.at c.args.b.now in
    let e = number c.args.b.now c.args.at 4 (c.args.at + 4) refl in
    same_list (c.args.at + 8) (c.args.at + 3 + 5) c.u32_at-n.result (le32 s 4) (omega arith) (c.u32_at-n.ensures ∙ sym e)
    ∙ sym (list_is (c.args.at + 3) s c.requires.nonzero (byte c.args.b.now c.args.at 2 (c.args.at + 2) refl ∙ c.if-b-at-ne66.false) (byte c.args.b.now c.args.at 3 (c.args.at + 3) refl ∙ c.if-b-at-ne73.false) (omega (arith, c.u32_at-n.ensures)))
