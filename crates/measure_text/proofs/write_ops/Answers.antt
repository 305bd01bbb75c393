-- What is left to store at i is all that is to be stored.
use Prim.Native.Nat.{◌-◌}
use mathlib.Core.Path.{◌≡◌, sym, ◌∙◌, subst}
use native.Mathlib.Omega.{arith}
use mathlib.Core.Bool.{false}
use lib.ListN.{length, take, drop, length-set}
use lib.Seq.{sets}
use Rattle.lists.specs.Lists.{splice}
use Rattle.text_rules.specs.Text.{text_ops}
use Rattle.tokens.specs.InnerToken.{OpAt, TokenAt}
use Rattle.tokens.proofs.TextLaws.{at-end}
use Rattle.parsed_rules.proofs.PutLaws.{put_one, put_none, put_full, put_all}
use Rattle.measure_text.proofs.write_ops.Goals as goal

pub returns-in_default : goal.returns-in_default
returns-in_default c =
    let stored : sets c.loop-i.out c.loop-i.at (take (length c.args.out.now - c.loop-i.at) (text_ops (drop c.loop-i.i c.args.text.now))) ≡ c.loop-i.out → c.loop-i.out ≡ splice c.args.out.now 0 (take (length c.args.out.now) (text_ops c.args.text.now)) =
    λ e. sym e ∙ c.loop-i.invariant.3 ∙ put_all c.args.out.now (text_ops c.args.text.now)
    in
    let n = subst (TokenAt c.args.text.now c.loop-i.i) c.in_default.is c.token_at.ensures in
    stored (put_none c.loop-i.out (length c.args.out.now) c.loop-i.at _ n.ops)

pub returns-then-out-at : goal.returns-then-out-at
returns-then-out-at c =
    let stored : sets c.loop-i.out c.loop-i.at (take (length c.args.out.now - c.loop-i.at) (text_ops (drop c.loop-i.i c.args.text.now))) ≡ c.loop-i.out → c.loop-i.out ≡ splice c.args.out.now 0 (take (length c.args.out.now) (text_ops c.args.text.now)) =
    λ e. sym e ∙ c.loop-i.invariant.3 ∙ put_all c.args.out.now (text_ops c.args.text.now)
    in
    stored (put_full c.loop-i.out (length c.args.out.now) c.loop-i.at _ (omega arith))

pub loop-i-preserved : goal.loop-i-preserved
loop-i-preserved c =
    let found : OpAt c.args.text.now c.loop-i.i c.in-Some.token.len c.in-Some.token.code c.in-Some.token.next =
    subst (TokenAt c.args.text.now c.loop-i.i) c.in-Some.is c.token_at.ensures
    in
    let o = found in (
      o.inside,
      omega arith,
      simp length-set c.loop-i.invariant.2,
      put_one c.loop-i.out (length c.args.out.now) c.loop-i.at _ _ _ (omega arith) o.ops ∙ c.loop-i.invariant.3,
    )

pub returns : goal.returns
returns c =
    let stored : sets c.loop-i.out c.loop-i.at (take (length c.args.out.now - c.loop-i.at) (text_ops (drop c.loop-i.i c.args.text.now))) ≡ c.loop-i.out → c.loop-i.out ≡ splice c.args.out.now 0 (take (length c.args.out.now) (text_ops c.args.text.now)) =
    λ e. sym e ∙ c.loop-i.invariant.3 ∙ put_all c.args.out.now (text_ops c.args.text.now)
    in
    stored (put_none c.loop-i.out (length c.args.out.now) c.loop-i.at _ (at-end c.args.text.now c.loop-i.i 0 false (omega arith)).1)
