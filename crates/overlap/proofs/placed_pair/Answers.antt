-- The test is the definition's, and the two places are counted from 1.
use mathlib.Core.Path.{◌≡◌, refl, sym, ap, ◌∙◌}
use Rattle.std.specs.Prelude.{Err, None, Some}
use lib.IntN.{ℤ}
use mir.Syntax.{w32}
use mir.Val.{to_z, of_z}
use Rattle.answers.specs.declared.Refusal.TheVariants.{Overflow}
use Rattle.ends_rules.specs.Ends.{plus_one}
use Rattle.overlap_rules.proofs.CallLaws.{apart, together}
use borrow.Author.Rules.{rules}
use Rattle.overlap.proofs.placed_pair.Goals as goal

pub returns-then-not-fr : goal.returns-then-not-fr
returns-then-not-fr c =
    apart _ _ _ (c.if-not-fr.true)

pub returns-in_err-own : goal.returns-in_err-own
returns-in_err-own c =
    let p = c.plus_one.ensures ∙ ap (λ (z : ℤ). plus_one (record { 0 = z })) c.own_place.ensures in
    let none : c.plus_one.result ≡ None = search rules in
    let passed : c.from_residual.result ≡ Err Overflow = search rules in
    together _ _ _ (c.if-not-fr.false) (sym none ∙ p) refl passed

pub returns-in_err-other : goal.returns-in_err-other
returns-in_err-other c =
    let p = c.plus_one.ensures ∙ ap (λ (z : ℤ). plus_one (record { 0 = z })) c.own_place.ensures in
    let own : c.plus_one.result ≡ Some c.in_ok-own.own = search rules in
    let none : c.plus_one-2.result ≡ None = search rules in
    let passed : c.from_residual-in_err-other.result ≡ Err Overflow = search rules in
    together _ _ _ (c.if-not-fr.false) (sym own ∙ p) (sym none ∙ c.plus_one-2.ensures) passed

pub returns : goal.returns
returns c =
    let p = c.plus_one.ensures ∙ ap (λ (z : ℤ). plus_one (record { 0 = z })) c.own_place.ensures in
    let own : c.plus_one.result ≡ Some c.in_ok-own.own = search rules in
    let other : c.plus_one-2.result ≡ Some c.in_ok-other.other = search rules in
    let e : to_z w32 (of_z w32 c.in_ok-own.own) ≡ c.in_ok-own.own = search rules in
    let f : to_z w32 (of_z w32 c.in_ok-other.other) ≡ c.in_ok-other.other = search rules in
    simp (e, f) (together _ _ _ (c.if-not-fr.false) (sym own ∙ p) (sym other ∙ c.plus_one-2.ensures) refl)
