-- By the tests; the place is that of the list from the next of the given one, by the strand.
use mathlib.Core.Path.{◌≡◌, ap, sym, ◌∙◌}
use Rattle.std.specs.Prelude.{Err, None, Some}
use mir.Syntax.{w32}
use mir.Val.{to_z, of_z}
use Rattle.answers.specs.declared.Refusal.TheVariants.{Overflow}
use Rattle.ends_rules.specs.Ends.{as_unclipped}
use Rattle.ends_rules.proofs.CaseLaws.{placed_by}
use borrow.Author.Rules.{rules}
use Rattle.unclipped.proofs.unclipped_by.Goals as goal

pub returns-in_err-from : goal.returns-in_err-from
returns-in_err-from g c =
    let none : c.plus_one.result ≡ None = search rules in
    let passed : c.from_residual.result ≡ Err Overflow = search rules in
    passed ∙ placed_by _ _ _ _ c.count.ensures.value c.if-count-eq0.false None (sym none ∙ c.plus_one.ensures)

pub returns-in_err-at : goal.returns-in_err-at
returns-in_err-at g c =
    let next : c.plus_one.result ≡ Some c.in_ok-from.from = search rules in
    let none : c.five_prime.result ≡ None = search rules in
    let passed : c.from_residual-in_err-at.result ≡ Err Overflow = search rules in
    let e : to_z w32 (of_z w32 c.in_ok-from.from) ≡ c.in_ok-from.from = search rules in
    passed ∙ ap as_unclipped (sym none ∙ simp e at c.five_prime.ensures) ∙ placed_by _ _ _ _ c.count.ensures.value c.if-count-eq0.false (Some c.in_ok-from.from) (sym next ∙ c.plus_one.ensures)

pub returns : goal.returns
returns g c =
    let next : c.plus_one.result ≡ Some c.in_ok-from.from = search rules in
    let there : c.five_prime.result ≡ Some c.in_ok-at.at = search rules in
    let e : to_z w32 (of_z w32 c.in_ok-from.from) ≡ c.in_ok-from.from = search rules in
    let f : to_z w32 (of_z w32 c.in_ok-at.at) ≡ c.in_ok-at.at = search rules in
    simp f (ap as_unclipped (sym there ∙ simp e at c.five_prime.ensures) ∙ placed_by _ _ _ _ c.count.ensures.value c.if-count-eq0.false (Some c.in_ok-from.from) (sym next ∙ c.plus_one.ensures))
