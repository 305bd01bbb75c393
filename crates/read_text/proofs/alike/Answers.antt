-- Each op is an inner one, and leaves the stage as it was.
use Prim.Native.Nat.{ℕ}
use mathlib.Core.Path.{◌≡◌, ap, subst}
use mathlib.Core.Bool.{true}
use native.Mathlib.Omega.{arith}
use Rattle.tokens.specs.InnerToken.{OpAt, ShortAt}
use Rattle.sam.specs.Op.{code_of}
use Rattle.validity.specs.InnerStages.{code_class, is_inner_class}
use Rattle.validity.specs.declared.Stage.TheVariants.{Good}
use Rattle.read_text.proofs.ReadLaws.{on_from, op-on, inner_good}
use Rattle.read_text.proofs.alike.Goals as goal

pub loop-i-preserved : goal.loop-i-preserved
loop-i-preserved c =
    let found : OpAt c.args.text.now c.loop-i.i c.in-Some.token.len c.in-Some.token.code c.in-Some.token.next =
    subst (ShortAt c.args.text.now c.loop-i.i) c.in-Some.is c.alike_token.ensures
    in
    let inner : is_inner_class (code_class c.in-Some.token.code) ≡ true =
    let o = found in
    let e = ap (λ (k : ℕ). is_inner_class (code_class k)) {x = c.in-Some.token.code} {y = code_of c.in-Some.token.code} (omega (arith, o.known)) in
    cc
    in
    let o = found in
    let x = on_from c.args.text.now _ _ _ _ _ _ _ _ _ _ _ _ c.loop-i.invariant.3
    (op-on c.args.text.now Good c.loop-i.n c.loop-i.i _ _ _ o Good c.loop-i.out _ (inner_good (code_class c.in-Some.token.code) (inner)) c.put.ensures) in
    (omega (arith, o.ahead), o.inside, x.room, x)
