-- The four bytes tell the op: which of them are digits, and which is the letter.
use Prim.Native.Nat.{ℕ, ◌+◌, ◌-◌, ◌*◌, ◌≤◌}
use mathlib.Core.Path.{◌≡◌, refl, sym, ap, ◌∙◌, subst}
use mathlib.Core.Bool.{true, cond}
use native.Mathlib.Omega.{arith}
use lib.ListN.{get_or}
use Rattle.sam.specs.Op.{letter_code}
use Rattle.sam.specs.Text.{is_digit}
use Rattle.letters.proofs.Table.{known}
use Rattle.tokens.proofs.LetterLaws.{short_op}
use Rattle.tokens.proofs.short_token.Goals as goal
use Rattle.tokens.proofs.short_token.Goals.{then-two+then-three, then-two+else-three, else-two}

pub returns : goal.returns
returns c =
    let text = c.args.text.now in
    let at = c.args.at in
    let first : is_digit (get_or text at 0) ≡ true = sym c.is_ascii_digit.ensures.value ∙ c.if-not-is_ascii_digit.false in
    -- the number
    let number : c.if-two.len
    ≡ cond c.is_ascii_digit-two.result
    (cond c.is_ascii_digit-three.result ((get_or text at 0 * 10 + get_or text (at + 1) 0) * 10 + get_or text (at + 2) 0 - 5328) (get_or text at 0 * 10 + get_or text (at + 1) 0 - 528))
    (get_or text at 0 - 48) =
    elim c.if-two.branch [
      | then-two+then-three w ↦ rw (w.if-two.true, w.if-three.true) w.len-is
      | then-two+else-three w ↦ rw (w.if-two.true, w.if-three.false) w.len-is
      | else-two w ↦ rw w.if-two.false w.len-is
    ]
    in
    let e = c.code_at-code.ensures in
    let o : c.code_at-code.result ≤ 8 = c.if-code-gt8.false in
    short_op text at (get_or text at 0) (get_or text (at + 1) 0) (get_or text (at + 2) 0) (omega arith) refl refl refl first
    _ _ (sym c.is_ascii_digit-two.ensures.value) (sym c.is_ascii_digit-three.ensures.value) c.if-two.len c.code_at-code.result _ number (λ z. omega arith)
    (e ∙ known _ (subst (λ (n : ℕ). n ≤ 8) e o) ∙ ap letter_code c.letter_of.ensures) o (ap (λ n. at + n) c.width_of.ensures.0)
