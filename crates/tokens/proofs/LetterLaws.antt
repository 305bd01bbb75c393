-- An op of one to four digits and a letter, byte by byte.
use Prim.Native.Nat.{ℕ, ◌+◌, ◌-◌, ◌*◌, ◌≤◌, ◌<◌}
use Rattle.std.specs.Prelude.{Some, None, Option}
use mathlib.Core.Path.{◌≡◌, refl, sym, ap, ◌∙◌, subst}
use mathlib.Core.Bool.{Bool, true, false, cond}
use mathlib.Core.List.{List}
use native.Mathlib.Omega.{arith}
use lib.ListN.{length, get_or}
use Rattle.sam.specs.Op.{letter_code}
use Rattle.sam.specs.Text.{is_digit}
use Rattle.text_rules.specs.Text.{effect_of, Effect}
use Rattle.tokens.specs.InnerToken.{OpAt, ShortAt, Lettered}
use Rattle.tokens.specs.declared.Token.{Token}
use Rattle.sam.proofs.LetterLaws.{letter_digit, code_letter}
use Rattle.sam.proofs.TextLaws.{a_digit}
use Rattle.text_rules.proofs.ByteLaws.{byte_digit, byte_letter}
use Rattle.tokens.proofs.TextLaws.{Reading, reading, read_digit, read_letter}

-- a letter is no digit
pub code_no_digit : (b : ℕ) → letter_code b ≤ 8 → is_digit b ≡ false
code_no_digit b h = ap is_digit (sym (code_letter b (omega arith))) ∙ letter_digit (letter_code b) (omega arith)

-- ---- a digit more, or the letter

module _ (s : List ℕ) (at i num b : ℕ) (r : Reading s at i num) (e : b ≡ get_or s i 0) (h : i < length s) (l : at ≤ i) where
  digit_on : (j v : ℕ) → j ≡ i + 1 → is_digit b ≡ true → v ≡ num * 10 + (b - 48) → v ≤ 268435455 → Reading s at j v
  digit_on j v p d q m =
      subst (λ (k : ℕ). Reading s at k v) (sym p)
      (read_digit s at i num r v h l (ap (effect_of num) (sym e) ∙ byte_digit num b d (omega arith) ∙ ap Effect.Number (sym q)))

  letter_on : at < i → (len code next : ℕ) → len ≡ num → next ≡ i + 1 → (len ≡ 0 → ⊥) → len ≤ 268435455 → code ≡ letter_code b → code ≤ 8 → OpAt s at len code next
  letter_on g len code next p q z m c k =
      subst (λ (n : ℕ). OpAt s at len code n) (sym q)
      (subst (λ (n : ℕ). OpAt s at n code (i + 1)) (sym p)
      (read_letter s at i num r code h g (omega arith) (omega arith) (omega arith)
      (ap (effect_of num) (sym e) ∙ byte_letter num b (code_no_digit b (omega arith)) (omega arith) (omega arith) ∙ ap Effect.Letter (sym c))))

-- the op at a place with four bytes, by whether the second and the third are digits
module _ (s : List ℕ) (at first second third : ℕ) (room : at + 4 ≤ length s)
    (e₁ : first ≡ get_or s at 0) (e₂ : second ≡ get_or s (at + 1) 0) (e₃ : third ≡ get_or s (at + 2) 0) (d₁ : is_digit first ≡ true) where
  one_digit : Reading s at (at + 1) (first - 48)
  one_digit = let k = a_digit first d₁ in digit_on s at at 0 first (reading s at) e₁ (omega arith) (omega arith) (at + 1) (first - 48) refl d₁ (omega arith) (omega arith)

  two_digits : is_digit second ≡ true → Reading s at (at + 2) (first * 10 + second - 528)
  two_digits d₂ =
      let k = a_digit first d₁ in
      let m = a_digit second d₂ in
      digit_on s at (at + 1) (first - 48) second one_digit e₂ (omega arith) (omega arith) (at + 2) (first * 10 + second - 528) (omega arith) d₂ (omega arith) (omega arith)

  three_digits : is_digit second ≡ true → is_digit third ≡ true → Reading s at (at + 3) ((first * 10 + second) * 10 + third - 5328)
  three_digits d₂ d₃ =
      let k = a_digit first d₁ in
      let m = a_digit second d₂ in
      let n = a_digit third d₃ in
      digit_on s at (at + 2) (first * 10 + second - 528) third (two_digits d₂) e₃ (omega arith) (omega arith) (at + 3) ((first * 10 + second) * 10 + third - 5328) (omega arith) d₃ (omega arith) (omega arith)

  pub short_op : (two three : Bool) → is_digit second ≡ two → is_digit third ≡ three
      → (len code next : ℕ) → len ≡ cond two (cond three ((first * 10 + second) * 10 + third - 5328) (first * 10 + second - 528)) (first - 48)
      → (len ≡ 0 → ⊥) → code ≡ letter_code (cond two (cond three (get_or s (at + 3) 0) (get_or s (at + 2) 0)) (get_or s (at + 1) 0)) → code ≤ 8 → next ≡ at + cond two (cond three 4 3) 2
      → OpAt s at len code next
  short_op true true d₂ d₃ len code next p z c k q =
      let a = a_digit first d₁ in
      let m = a_digit second d₂ in
      let n = a_digit third d₃ in
      letter_on s at (at + 3) _ _ (three_digits d₂ d₃) refl (omega arith) (omega arith) (omega arith) len code next p (omega arith) z (omega arith) c k
  short_op true false d₂ d₃ len code next p z c k q =
      let a = a_digit first d₁ in
      let m = a_digit second d₂ in
      letter_on s at (at + 2) _ third (two_digits d₂) e₃ (omega arith) (omega arith) (omega arith) len code next p (omega arith) z (omega arith) (c ∙ ap letter_code (sym e₃)) k
  short_op false three d₂ d₃ len code next p z c k q =
      let a = a_digit first d₁ in
      letter_on s at (at + 1) _ second one_digit e₂ (omega arith) (omega arith) (omega arith) len code next p (omega arith) z (omega arith) (c ∙ ap letter_code (sym e₂)) k

-- the op at a place with five bytes of which the first four are digits
module _ (s : List ℕ) (at first second third fourth : ℕ) (room : at + 5 ≤ length s)
    (e₁ : first ≡ get_or s at 0) (e₂ : second ≡ get_or s (at + 1) 0) (e₃ : third ≡ get_or s (at + 2) 0) (e₄ : fourth ≡ get_or s (at + 3) 0)
    (d₁ : is_digit first ≡ true) (d₂ : is_digit second ≡ true) (d₃ : is_digit third ≡ true) (d₄ : is_digit fourth ≡ true) where
  four_digits : Reading s at (at + 4) (((first * 10 + second) * 10 + third) * 10 + fourth - 53328)
  four_digits =
      let k = a_digit first d₁ in
      let l = a_digit second d₂ in
      let m = a_digit third d₃ in
      let n = a_digit fourth d₄ in
      digit_on s at (at + 3) ((first * 10 + second) * 10 + third - 5328) fourth (three_digits s at first second third (omega arith) e₁ e₂ e₃ d₁ d₂ d₃) e₄ (omega arith) (omega arith)
      (at + 4) (((first * 10 + second) * 10 + third) * 10 + fourth - 53328) (omega arith) d₄ (omega arith) (omega arith)

  pub four_op : (len code next : ℕ) → len ≡ ((first * 10 + second) * 10 + third) * 10 + fourth - 53328
      → (len ≡ 0 → ⊥) → code ≡ letter_code (get_or s (at + 4) 0) → code ≤ 8 → next ≡ at + 5 → OpAt s at len code next
  four_op len code next p z c k q =
      let a = a_digit first d₁ in
      let l = a_digit second d₂ in
      let m = a_digit third d₃ in
      let n = a_digit fourth d₄ in
      letter_on s at (at + 4) _ _ four_digits refl (omega arith) (omega arith) (omega arith) len code next p (omega arith) z (omega arith) c k

-- a letter that is looked up after the number
pub lettered_short : (s : List ℕ) (at len letter next : ℕ) (r : Option Token) → Lettered len letter next r
    → ((code : ℕ) → code ≡ letter_code letter → code ≤ 8 → OpAt s at len code next) → ShortAt s at r
lettered_short s at len letter next (Some got) h f =
    subst (λ (k : ℕ). OpAt s at k got.code got.next) (sym h.0) (subst (λ (k : ℕ). OpAt s at len got.code k) (sym h.3) (f got.code h.1 h.2))
lettered_short s at len letter next None h f = tt
