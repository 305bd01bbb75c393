-- What a byte of a text does, by the tests that a reader makes of it.
use Prim.Native.Nat.{ℕ, ◌+◌, ◌-◌, ◌*◌, ◌≤◌, ◌<◌}
use mathlib.Core.Path.{◌≡◌}
use mathlib.Core.Bool.{true, false, or-true}
use borrow.Author.Tests.{lt-ltb, le-ltb, eq-eqb, ne_eqb}
use Rattle.sam.specs.Op.{letter_code}
use Rattle.sam.specs.Text.{is_digit}
use Rattle.text_rules.specs.Text.{Effect, effect_of}

module _ (num b : ℕ) where
  pub byte_digit : is_digit b ≡ true → num * 10 + (b - 48) ≤ 268435455 → effect_of num b ≡ Effect.Number (num * 10 + (b - 48))
  unfolding effect_of
  byte_digit d h = rw (d, le-ltb 268435455 (num * 10 + (b - 48)) h)

  pub byte_over : is_digit b ≡ true → 268435455 < num * 10 + (b - 48) → effect_of num b ≡ Effect.Bad
  unfolding effect_of
  byte_over d h = rw (d, lt-ltb 268435455 (num * 10 + (b - 48)) h)

  pub byte_letter : is_digit b ≡ false → (num ≡ 0 → ⊥) → letter_code b ≤ 8 → effect_of num b ≡ Effect.Letter (letter_code b)
  unfolding effect_of
  byte_letter d z h = rw (d, ne_eqb num 0 z, le-ltb 8 (letter_code b) h)

  pub byte_zero : is_digit b ≡ false → num ≡ 0 → effect_of num b ≡ Effect.Bad
  unfolding effect_of
  byte_zero d z = rw (d, eq-eqb num 0 z)

  pub byte_unknown : is_digit b ≡ false → 8 < letter_code b → effect_of num b ≡ Effect.Bad
  unfolding effect_of
  byte_unknown d h = rw (d, lt-ltb 8 (letter_code b) h, or-true)
