-- Each op takes the reader on.
use Prim.Native.Nat.{ℕ}
use Rattle.std.specs.Prelude.{None}
use mathlib.Core.Path.{◌≡◌, refl, sym, ap, ◌∙◌}
use native.Mathlib.Omega.{arith}
use Rattle.sam.specs.Op.{code_of}
use mathlib.Core.List.{List}
use Rattle.tokens.specs.InnerToken.{OpAt}
use Rattle.tokens.specs.declared.Token.{Token}
use Rattle.validity.specs.declared.Stage.{Stage}
use Rattle.validity.specs.InnerStages.{code_class, step_of, is_wrong}
use Rattle.read_text.proofs.ReadLaws.{on_from, op-on, op-wrong, same_taken}
use Rattle.read_text.proofs.stretch.Goals as goal

-- the stage that a step goes to is that of the op's class
stepped : (p q : Stage) (s : List ℕ) (i : ℕ) (t : Token) → OpAt s i t.len t.code t.next → q ≡ step_of p (code_class (code_of t.code)) → q ≡ step_of p (code_class t.code)
stepped p q s i t o e = e ∙ ap (λ (k : ℕ). step_of p (code_class k)) {x = code_of t.code} {y = t.code} (omega (arith, o.known))

pub returns-in_err-token : goal.returns-in_err-token
returns-in_err-token c =
    let e : c.from_residual.result ≡ None = c.from_residual.ensures in
    let n = c.in_err-token.ensures in
    rw e (same_taken c.args.text.now _ _ _ _ _ _ _ _ c.loop.invariant.4 ∙ rw n.row refl)

pub returns-then-is_wrong : goal.returns-then-is_wrong
returns-then-is_wrong c =
    let o = c.in_ok-token.ensures in
    let l = c.loop in
    let w = ap is_wrong (sym (stepped l.p _ c.args.text.now l.i c.in_ok-token.token o c.step-p.ensures)) ∙ sym c.is_wrong.ensures ∙ c.if-is_wrong.true in
    same_taken c.args.text.now _ _ _ _ _ _ _ _ l.invariant.4 ∙ op-wrong c.args.text.now l.p l.n l.i _ _ _ o w

pub loop-preserved : goal.loop-preserved
loop-preserved c =
    let o = c.in_ok-token.ensures in
    let l = c.loop in
    let x = on_from c.args.text.now _ _ _ _ _ _ _ _ _ _ _ _ l.invariant.4
    (op-on c.args.text.now l.p l.n l.i _ _ _ o _ l.out _ (stepped l.p _ c.args.text.now l.i c.in_ok-token.token o c.step-p.ensures) c.put.ensures) in
    (omega (arith, o.ahead), o.inside, x.room, omega (arith, o.ahead), x)
