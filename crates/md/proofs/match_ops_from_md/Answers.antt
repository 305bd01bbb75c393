-- The tests are the rule's, in its order: what was measured is well formed and agrees, and of what was not it is asked which.
use Prim.Native.Nat.{◌≤◌}
use Rattle.std.specs.Prelude.{Ok}
use mathlib.Core.Path.{sym, ap, ◌∙◌, subst}
use native.Mathlib.Omega.{arith}
use lib.ListN.{length}
use Rattle.answers.proofs.Unique.{settled, outcome}
use Rattle.md_rules.specs.InnerWalk.{Measured, WalkedIs}
use Rattle.md_rules.proofs.AnswerLaws.{too_many, malformed, told-apart, disagrees, no_room, replaced}
use Rattle.md.proofs.match_ops_from_md.Goals as goal

pub returns-then-ops-gt-MOST_OPS : goal.returns-then-ops-gt-MOST_OPS
returns-then-ops-gt-MOST_OPS c =
    settled (too_many c.args.ops.now c.args.text.now c.args.out.now c.if-ops-gt-MOST_OPS.true)

pub returns-then-holds_told-2 : goal.returns-then-holds_told-2
returns-then-holds_told-2 c =
    let measured : Measured c.args.ops.now c.args.text.now c.in-Some.n =
    subst (WalkedIs c.args.ops.now c.args.text.now) c.in-Some.is c.measure.ensures
    in
    let few : length c.args.ops.now ≤ 65535 =
    c.if-ops-gt-MOST_OPS.false
    in
    let u = measured in
    settled (told-apart c.args.ops.now c.args.text.now c.args.out.now (few) u.formed (sym c.holds_told-2.ensures ∙ c.if-holds_told-2.true))

pub returns-then-out-n : goal.returns-then-out-n
returns-then-out-n c =
    let measured : Measured c.args.ops.now c.args.text.now c.in-Some.n =
    subst (WalkedIs c.args.ops.now c.args.text.now) c.in-Some.is c.measure.ensures
    in
    let few : length c.args.ops.now ≤ 65535 =
    c.if-ops-gt-MOST_OPS.false
    in
    let u = measured in
    settled (no_room c.args.ops.now c.args.text.now c.args.out.now (few) u.formed (sym c.holds_told-2.ensures ∙ c.if-holds_told-2.false) u.agree (omega (arith, u.many, c.if-out-n.true)))

pub returns : goal.returns
returns c =
    let measured : Measured c.args.ops.now c.args.text.now c.in-Some.n =
    subst (WalkedIs c.args.ops.now c.args.text.now) c.in-Some.is c.measure.ensures
    in
    let few : length c.args.ops.now ≤ 65535 =
    c.if-ops-gt-MOST_OPS.false
    in
    let u = measured in
    settled (replaced c.args.ops.now c.args.text.now c.args.out.now (few) u.formed (sym c.holds_told-2.ensures ∙ c.if-holds_told-2.false) u.agree (omega (arith, u.many, c.if-out-n.false))
    ∙ outcome (ap Ok u.many) c.write.ensures)

pub returns-then-not-well_formed : goal.returns-then-not-well_formed
returns-then-not-well_formed c =
    settled (malformed c.args.ops.now c.args.text.now c.args.out.now c.if-ops-gt-MOST_OPS.false (sym c.well_formed-in_default.ensures ∙ c.if-not-well_formed.true))

pub returns-then-holds_told : goal.returns-then-holds_told
returns-then-holds_told c =
    settled (told-apart c.args.ops.now c.args.text.now c.args.out.now c.if-ops-gt-MOST_OPS.false (sym c.well_formed-in_default.ensures ∙ c.if-not-well_formed.false) (sym c.holds_told.ensures ∙ c.if-holds_told.true))

pub returns-in_default : goal.returns-in_default
returns-in_default c =
    let f = sym c.well_formed-in_default.ensures ∙ c.if-not-well_formed.false in
    let u = subst (WalkedIs c.args.ops.now c.args.text.now) c.in_default.is c.measure.ensures in
    settled (disagrees c.args.ops.now c.args.text.now c.args.out.now c.if-ops-gt-MOST_OPS.false f (sym c.holds_told.ensures ∙ c.if-holds_told.false) (u f))
