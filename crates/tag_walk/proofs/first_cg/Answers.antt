-- What the tags from the place reached come to, all of them come to.
use mathlib.Core.Path.{sym, ◌∙◌}
use native.Mathlib.Omega.{arith}
use Rattle.tag_rules.proofs.WalkLaws.{walk_ends, walk_breaks, walk_found, walk_on}
use Rattle.tag_walk.proofs.first_cg.Goals as goal

pub returns-then-size-eq0 : goal.returns-then-size-eq0
returns-then-size-eq0 c =
    sym (walk_breaks c.args.without c.args.b.now c.loop-at.at c.loop-at-test.true (sym c.tag_size-size.ensures.0 ∙ c.if-size-eq0.true))
    ∙ c.loop-at.invariant.1

pub returns-then-is_cg : goal.returns-then-is_cg
returns-then-is_cg c =
    c.list_in.ensures
    ∙ sym (walk_found c.args.without c.args.b.now c.loop-at.at (omega (arith, c.if-size-eq0.false)) (sym c.is_cg.ensures ∙ c.if-is_cg.true))
    ∙ c.loop-at.invariant.1

pub loop-at-preserved : goal.loop-at-preserved
loop-at-preserved c =
    let f = sym c.is_cg.ensures ∙ c.if-is_cg.false in
    let w = walk_on c.args.without c.args.b.now c.loop-at.at c.tag_size-size.result c.tag_size-size.ensures.0 (omega (arith, c.if-size-eq0.false)) f in
    (omega (arith, c.tag_size-size.ensures.1), sym w ∙ c.loop-at.invariant.1)

pub returns : goal.returns
returns c =
    sym (walk_ends c.args.without c.args.b.now c.loop-at.at c.loop-at-test.false) ∙ c.loop-at.invariant.1
