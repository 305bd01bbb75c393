-- So many digits are read, and the letter after them.
use Prim.Native.Nat.{ℕ, ◌+◌, ◌≤◌, ◌<◌}
use mathlib.Core.Path.{◌≡◌, refl, sym, ◌∙◌}
use mathlib.Core.Bool.{true, false}
use native.Mathlib.Omega.{arith}
use lib.ListN.{get_or}
use Rattle.sam.specs.Text.{is_digit}
use Rattle.sam.proofs.TextLaws.{digit_is, a_digit}
use Rattle.tokens.proofs.LetterLaws.{code_no_digit, short_op, four_op, lettered_short}
use Rattle.alike_tokens.proofs.alike_token.Goals as goal

-- a first digit is a digit
first_digit : (b : ℕ) → (48 < b) × (b ≤ 57) → is_digit b ≡ true
first_digit b h = digit_is b (record { least = omega arith; most = h.1 })

pub returns-then-digits-eq1 : goal.returns-then-digits-eq1
returns-then-digits-eq1 c =
    let text = c.args.text.now in
    let at = c.args.at in
    let h = c.is_first.ensures (c.if-not-is_first.false) in
    lettered_short text at _ _ _ c.lettered.result c.lettered.ensures
    (λ code e k. short_op text at (get_or text at 0) _ _ (omega arith) refl refl refl (first_digit _ h)
    false _ (code_no_digit (get_or text (at + 1) 0) (omega (arith, e, k))) refl _ code _ refl (λ z. omega (arith, z, h.0)) e k refl)

pub returns-then-digits-eq2 : goal.returns-then-digits-eq2
returns-then-digits-eq2 c =
    let text = c.args.text.now in
    let at = c.args.at in
    let h = c.is_first.ensures (c.if-not-is_first.false) in
    let second : is_digit (get_or text (at + 1) 0) ≡ true = sym c.is_ascii_digit.ensures.value ∙ c.if-not-is_ascii_digit.false in
    let d = a_digit (get_or text (at + 1) 0) second in
    lettered_short text at _ _ _ c.lettered-then-digits-eq2.result c.lettered-then-digits-eq2.ensures
    (λ code e k. short_op text at (get_or text at 0) (get_or text (at + 1) 0) _ (omega arith) refl refl refl (first_digit _ h)
    true false second (code_no_digit (get_or text (at + 2) 0) (omega (arith, e, k))) _ code _ refl (λ z. omega (arith, z, h.0, d.least)) e k refl)

pub returns-then-digits-eq3 : goal.returns-then-digits-eq3
returns-then-digits-eq3 c =
    let text = c.args.text.now in
    let at = c.args.at in
    let h = c.is_first.ensures (c.if-not-is_first.false) in
    let second : is_digit (get_or text (at + 1) 0) ≡ true = sym c.is_ascii_digit.ensures.value ∙ c.if-not-is_ascii_digit.false in
    let third : is_digit (get_or text (at + 2) 0) ≡ true = sym c.is_ascii_digit-2.ensures.value ∙ c.if-not-is_ascii_digit-2.false in
    let d = a_digit (get_or text (at + 1) 0) second in
    let f = a_digit (get_or text (at + 2) 0) third in
    lettered_short text at _ _ _ c.lettered-then-digits-eq3.result c.lettered-then-digits-eq3.ensures
    (λ code e k. short_op text at (get_or text at 0) (get_or text (at + 1) 0) (get_or text (at + 2) 0) (omega arith) refl refl refl (first_digit _ h)
    true true second third _ code _ refl (λ z. omega (arith, z, h.0, d.least, f.least)) e k refl)

pub returns : goal.returns
returns c =
    let text = c.args.text.now in
    let at = c.args.at in
    let h = c.is_first.ensures (c.if-not-is_first.false) in
    let second : is_digit (get_or text (at + 1) 0) ≡ true = sym c.is_ascii_digit.ensures.value ∙ c.if-not-is_ascii_digit.false in
    let third : is_digit (get_or text (at + 2) 0) ≡ true = sym c.is_ascii_digit-2.ensures.value ∙ c.if-not-is_ascii_digit-2.false in
    let fourth : is_digit (get_or text (at + 3) 0) ≡ true = sym c.is_ascii_digit-3.ensures.value ∙ c.if-not-is_ascii_digit-3.false in
    let d = a_digit (get_or text (at + 1) 0) second in
    let f = a_digit (get_or text (at + 2) 0) third in
    let g = a_digit (get_or text (at + 3) 0) fourth in
    lettered_short text at _ _ _ c.lettered-2.result c.lettered-2.ensures
    (λ code e k. four_op text at (get_or text at 0) (get_or text (at + 1) 0) (get_or text (at + 2) 0) (get_or text (at + 3) 0) (omega arith)
    refl refl refl refl (first_digit _ h) second third fourth
    _ code _ refl (λ z. omega (arith, z, h.0, d.least, f.least, g.least)) e k refl)
