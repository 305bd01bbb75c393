-- The tests are the definition's; the numbers are those of the bytes behind the place.
use mathlib.Core.Path.{sym, ap, ◌∙◌}
use native.Mathlib.Omega.{arith}
use lib.ListN.{drop, length-drop}
use Rattle.sam.specs.Tags.{number_size}
use Rattle.sam.proofs.TagLaws.{byte, array_short, array_other}
use Rattle.tag_sizes.proofs.SizeLaws.{array_at}
use Rattle.tag_sizes.proofs.array_size.Goals as goal

pub returns-then-b-at-lt5 : goal.returns-then-b-at-lt5
returns-then-b-at-lt5 c =
    sym (array_short (drop c.args.at c.args.b.now) (simp length-drop (omega arith)))

pub returns-then-width-eq0 : goal.returns-then-width-eq0
returns-then-width-eq0 c =
    sym (array_other (drop c.args.at c.args.b.now) (simp length-drop (omega arith)) (ap number_size (byte c.args.b.now c.args.at 0 c.args.at (omega arith)) ∙ sym c.number_size-width.ensures.0 ∙ c.if-width-eq0.true))

pub returns : goal.returns
returns c =
    array_at c.args.b.now c.args.at c.number_size-width.result c.from.result (omega arith) c.number_size-width.ensures.0 (c.from.ensures ∙ c.u32_at.ensures) c.if-width-eq0.false
