-- As many letters behind `^` as the D is long, and a number.
use Prim.Native.Nat.{ℕ, ◌+◌, ◌-◌, ◌<◌}
use mathlib.Core.Path.{◌≡◌, refl, sym, ap, ◌∙◌}
use mathlib.Core.List.{List}
use native.Mathlib.Omega.{arith}
use borrow.Author.Rules.{rules}
use Rattle.std.specs.Prelude.{None}
use lib.ListN.{length, take, drop, length-drop}
use Rattle.lists.proofs.Absurd.{false_true}
use Rattle.md_rules.specs.Rule.{lost_at}
use Rattle.md_rules.specs.InnerWalk.{all_capital}
use Rattle.md_rules.proofs.OpLaws.{lost_behind, lost-end, lost-letter, lost-room, lost-capital, lost-large, loss-here, loss-behind}
use Rattle.md_text.proofs.deletion.Goals as goal
use Rattle.md_text.proofs.deletion.Goals.{then-s-ne0-via-then-s-ne0, then-s-ne0-via-else-s-ne0+then-text-s, then-s-ne0-via-else-s-ne0+else-text-s+then-text-s-ne94}

as_many : (text : List ℕ) (at n : ℕ) → all_capital (take (at + 1 + n - (at + 1)) (drop (at + 1) text)) ≡ all_capital (take n (drop (at + 1) text))
as_many text at n = ap (λ (j : ℕ). all_capital (take j (drop (at + 1) text))) {x = at + 1 + n - (at + 1)} {y = n} (omega arith)

pub returns-then-s-ne0 : goal.returns-then-s-ne0
returns-then-s-ne0 c =
    let text = c.args.text.now in
    let s = c.args.s in
    λ f. elim c.then-s-ne0.branch [
      | then-s-ne0-via-then-s-ne0 w ↦ lost_behind text s.at s.left c.args.length c.requires.0 c.requires.1 (omega (arith, w.if-s-ne0.true))
      | then-s-ne0-via-else-s-ne0+then-text-s w ↦ lost-end text s.at s.left c.args.length c.requires.0 c.requires.1 w.if-s-ne0.false w.if-text-s.true
      | then-s-ne0-via-else-s-ne0+else-text-s+then-text-s-ne94 w ↦
          lost-letter text s.at s.left c.args.length c.requires.0 c.requires.1 w.if-s-ne0.false (omega (arith, w.if-text-s.false)) w.if-text-s-ne94.true f
    ]

pub returns-then-text-from : goal.returns-then-text-from
returns-then-text-from c =
    let none : c.args.s.left ≡ 0 =
    c.if-s-ne0.false
    in
    let inside : c.args.s.at < length c.args.text.now =
    omega (arith, c.if-text-s.false)
    in
    λ f e. absurd (omega (arith, c.if-text-from.true, length-drop (c.args.s.at + 1) c.args.text.now, lost-room c.args.text.now c.args.s.at c.args.s.left c.args.length c.requires.0 c.requires.1 (none) (inside) c.if-text-s-ne94.false f e))

pub returns-then-not-all_capital : goal.returns-then-not-all_capital
returns-then-not-all_capital c =
    let none : c.args.s.left ≡ 0 =
    c.if-s-ne0.false
    in
    let inside : c.args.s.at < length c.args.text.now =
    omega (arith, c.if-text-s.false)
    in
    λ f e. false_true (sym (c.if-not-all_capital.true) ∙ c.all_capital.ensures ∙ as_many c.args.text.now c.args.s.at c.args.length ∙ lost-capital c.args.text.now c.args.s.at c.args.s.left c.args.length c.requires.0 c.requires.1 (none) (inside) c.if-text-s-ne94.false f e)

pub returns-in_err-f : goal.returns-in_err-f
returns-in_err-f c =
    let none : c.args.s.left ≡ 0 =
    c.if-s-ne0.false
    in
    let inside : c.args.s.at < length c.args.text.now =
    omega (arith, c.if-text-s.false)
    in
    let e : c.from_residual.result ≡ None = search rules in
    rw e (lost-large c.args.text.now c.args.s.at c.args.s.left c.args.length c.requires.0 c.requires.1 (none) (inside) c.if-text-s-ne94.false c.in_err-f.ensures)

pub returns : goal.returns
unfolding lost_at
returns c =
    let none : c.args.s.left ≡ 0 =
    c.if-s-ne0.false
    in
    let inside : c.args.s.at < length c.args.text.now =
    omega (arith, c.if-text-s.false)
    in
    let r = c.in_ok-f.ensures in
    let all = sym (as_many c.args.text.now c.args.s.at c.args.length) ∙ sym c.all_capital.ensures ∙ c.if-not-all_capital.false in
    let h = loss-here c.args.text.now c.args.s.at c.args.s.left c.args.length c.requires.0 c.requires.1 (none) (inside) c.if-text-s-ne94.false (omega (arith, inside, c.if-text-from.false)) all c.in_ok-f.f.n c.in_ok-f.f.at r in
    record {
      behind = loss-behind c.args.text.now c.args.s.at c.args.s.left c.args.length c.requires.0 c.requires.1 (none) (inside) c.if-text-s-ne94.false (omega (arith, inside, c.if-text-from.false)) all c.in_ok-f.f.n c.in_ok-f.f.at r;
      is = ap lost_at h;
      rest = ap (drop 1) h;
      counted = refl;
    }
