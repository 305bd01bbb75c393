-- By the strand, from what the walk to the end has met.
use mathlib.Core.Path.{◌≡◌, ◌∙◌}
use mir.Syntax.{w32}
use mir.Val.{to_z, of_z}
use Rattle.ends_rules.proofs.CaseLaws.{forward, backward}
use borrow.Author.Rules.{rules}
use Rattle.unclipped.proofs.five_prime.Goals as goal

pub returns : goal.returns
returns g c =
    let e : to_z w32 (of_z w32 c.args.at) ≡ c.args.at = search rules in
    simp e at c.start_from.ensures ∙ forward c.args.at _ c.args.reverse c.leading_clips.result c.if-reverse.false c.leading_clips.ensures

pub returns-then-reverse : goal.returns-then-reverse
returns-then-reverse g c =
    let e : to_z w32 (of_z w32 c.args.at) ≡ c.args.at = search rules in
    let f = c.tail_of.ensures in
    simp e at c.end_from.ensures ∙ backward c.args.at _ c.args.reverse c.tail_of.result c.if-reverse.true f.0 f.1 f.2
