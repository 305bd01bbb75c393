-- Document 01, module 5: "One or more digits and a letter, repeated. Refused: no digits, length 0 or above 268,435,455, unknown letter,
-- digits at the end". The text, byte by byte from the left.
use Rattle.std.specs.Prelude.{ℕ, ◌+◌, ◌-◌, ◌*◌, Bool, true, false, cond, not, ◌||◌, List, [], ◌∷◌, ltb, eqb}
use Rattle.sam.specs.Op.{op_of, letter_code}
use Rattle.sam.specs.Text.{is_digit}

-- what a byte does: the number that it makes of the digits so far, the op's code, or no CIGAR
pub data Effect : Type 0 where
  Number : ℕ → Effect
  Letter : ℕ → Effect
  Bad : Effect

-- a byte after the number num of the digits so far, 0 if there is none
unfoldable pub effect_of : ℕ → ℕ → Effect
effect_of num b =
    cond (is_digit b)
    (cond (ltb 268435455 (num * 10 + (b - 48))) Effect.Bad (Effect.Number (num * 10 + (b - 48))))
    (cond (eqb num 0 || ltb 8 (letter_code b)) Effect.Bad (Effect.Letter (letter_code b)))

abbrev pub on_effect : {A : Type 0} → Effect → (ℕ → A) → (ℕ → A) → A → A
on_effect (Effect.Number v) digit letter bad = digit v
on_effect (Effect.Letter c) digit letter bad = letter c
on_effect Effect.Bad digit letter bad = bad

-- whether a text after the number num (some: there are digits of it) is digits and a letter, repeated
unfoldable pub row_from : ℕ → Bool → List ℕ → Bool
row_from num some [] = not some
row_from num some (b ∷ s) = on_effect (effect_of num b) (λ v. row_from v true s) (λ c. row_from 0 false s) false

abbrev pub is_row : List ℕ → Bool
is_row s = row_from 0 false s

-- the ops of a text after the number num, up to its end or its first wrong byte
unfoldable pub ops_from : ℕ → List ℕ → List ℕ
ops_from num [] = []
ops_from num (b ∷ s) = on_effect (effect_of num b) (λ v. ops_from v s) (λ c. op_of num c ∷ ops_from 0 s) []

abbrev pub text_ops : List ℕ → List ℕ
text_ops s = ops_from 0 s
