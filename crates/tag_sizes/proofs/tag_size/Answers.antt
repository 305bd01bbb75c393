-- The tests are the definition's.
use mathlib.Core.Path.{sym, ◌∙◌}
use native.Mathlib.Omega.{arith}
use lib.ListN.{drop, length-drop}
use Rattle.sam.proofs.TagLaws.{tag_short, tag_unlisted, tag_over, tag_is}
use Rattle.tag_sizes.proofs.SizeLaws.{value_at}
use Rattle.tag_sizes.proofs.tag_size.Goals as goal

pub returns-then-b-at-lt3 : goal.returns-then-b-at-lt3
returns-then-b-at-lt3 c =
    (sym (tag_short (drop c.args.at c.args.b.now) (simp length-drop (omega arith))), omega arith)

pub returns-then-size-eq0 : goal.returns-then-size-eq0
returns-then-size-eq0 c =
    (sym (tag_unlisted (drop c.args.at c.args.b.now) (simp length-drop (omega arith)) (sym (value_at c.args.b.now c.args.at) ∙ sym c.value_size-size.ensures ∙ c.if-size-eq0.true)), omega arith)

pub returns-then-b-at : goal.returns-then-b-at
returns-then-b-at c =
    let e = c.value_size-size.ensures ∙ value_at c.args.b.now c.args.at in
    (sym (tag_over (drop c.args.at c.args.b.now) (simp length-drop (omega arith)) (λ z. c.if-size-eq0.false (e ∙ z)) (simp length-drop (omega arith))), omega arith)

pub returns : goal.returns
returns c =
    let e = c.value_size-size.ensures ∙ value_at c.args.b.now c.args.at in
    (omega (arith, tag_is (drop c.args.at c.args.b.now) (λ z. c.if-size-eq0.false (e ∙ z)) (simp length-drop (omega arith))), omega arith)
