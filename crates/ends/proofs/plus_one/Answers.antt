-- `checked_add` gives the sum of the definition.
use mathlib.Core.Path.{◌≡◌}
use mir.Syntax.{w32}
use mir.Val.{to_z, of_z}
use Rattle.ends_rules.specs.Sums.{both}
use Rattle.ends_rules.specs.Ends.{plus_one}
use borrow.Author.Rules.{rules}
use Rattle.ends.proofs.plus_one.Goals as goal

pub returns : goal.returns
unfolding plus_one both
returns c =
    let e : to_z w32 (of_z w32 c.args.p.0) ≡ c.args.p.0 = search rules in
    simp e at c.checked_add.ensures
