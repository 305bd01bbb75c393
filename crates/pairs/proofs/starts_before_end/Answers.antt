-- Both sides are raised by as much.
use mathlib.Core.Path.{◌≡◌, sym, ◌∙◌}
use mathlib.Core.Logic.{inl, inr}
use Prim.Native.Nat.{◌+◌}
use borrow.Author.Tests.{lt-ltb, le-ltb}
use Rattle.std.proofs.lemmas.Bool.{cases_lt}
use mir.Syntax.{w32}
use mir.Facts.{to_z-of_z}
use mir.Val.{to_z, of_z, SFits}
use Rattle.signed.specs.Whole.{raised}
use Rattle.pairs_rules.proofs.PairLaws.{starts_by, starts_past}
use borrow.Author.Rules.{rules}
use native.Mathlib.Omega.{arith}
use Rattle.pairs.proofs.starts_before_end.Goals as goal

pub returns : goal.returns
returns c =
    let own : c.raise-start.result ≡ raised c.args.s.0 =
    let e : to_z w32 (of_z w32 c.args.s.0) ≡ c.args.s.0 = search rules in
    simp e at c.raise-start.ensures.0
    in
    let from : c.raise.result ≡ raised c.args.p.0 =
    let e : to_z w32 (of_z w32 c.args.p.0) ≡ c.args.p.0 = search rules in
    simp e at c.raise.ensures.0
    in
    let span : c.raise-2.result ≡ raised c.args.n =
    simp (to_z-of_z c.ranges.n) at c.raise-2.ensures.0
    in
    let i : SFits w32 c.args.s.0 = search rules in
    let j : SFits w32 c.args.p.0 = search rules in
    elim (cases_lt (c.raise-start.result + 2147483648) (c.raise.result + c.raise-2.result)) [ inl h ↦ lt-ltb _ _ h ∙ sym (starts_by c.args.s.0 c.args.p.0 c.args.n i j c.ranges.n (omega (arith, own, from, span))) | inr h ↦ le-ltb _ _ h ∙ sym (starts_past c.args.s.0 c.args.p.0 c.args.n i j c.ranges.n (omega (arith, own, from, span))) ]
