-- The text goes op by op, each its digits and its letter.
use Prim.Native.Nat.{ℕ, ◌+◌, ◌≤◌, ◌<◌}
use Rattle.std.specs.Prelude.{None, Some}
use mathlib.Core.Path.{◌≡◌, refl, sym, ap, ◌∙◌}
use mathlib.Core.Bool.{Bool, true, false, cond, ◌||◌}
use mathlib.Core.List.{List, [], ◌∷◌, ◌++◌}
use lib.ListN.{length, set, drop, get_or, length-append}
use lib.Seq.{sets}
use lib.Dec.{ltb}
use Rattle.lists.proofs.Absurd.{never}
use Rattle.lists.proofs.Walks.{step, done}
use Rattle.sam.specs.Op.{len_of, code_of}
use Rattle.ops.specs.Ops.{letter_of}
use Rattle.decimal.specs.Inner.{Width, last_digits}
use Rattle.decimal.proofs.DigitLaws.{sets_append, length_digits, decimal-digits}
use Rattle.print_rules.specs.Text.{op_text, text_of, any_bad}

pub op_text_digits : (op r : ℕ) → Width (len_of op) r → op_text op ≡ last_digits r (len_of op) ++ (letter_of (code_of op) ∷ [])
unfolding op_text
op_text_digits op r w = ap (λ (l : List ℕ). l ++ (letter_of (code_of op) ∷ [])) (decimal-digits (len_of op) r w)

pub op_text_length : (op r : ℕ) → Width (len_of op) r → length (op_text op) ≡ r + 1
op_text_length op r w =
    ap length (op_text_digits op r w) ∙ length-append (last_digits r (len_of op)) _ ∙ ap (λ (k : ℕ). k + 1) (length_digits r (len_of op))

module _ (xs : List ℕ) (i x : ℕ) (e : x ≡ get_or xs i 0) (h : i < length xs) where
  pub text-step : text_of (drop i xs) ≡ op_text x ++ text_of (drop (i + 1) xs)
  unfolding text_of
  text-step = ap text_of (step xs i x e h)

  pub length_step : length (text_of (drop i xs)) ≡ length (op_text x) + length (text_of (drop (i + 1) xs))
  length_step = ap length text-step ∙ length-append (op_text x) (text_of (drop (i + 1) xs))

  pub bad_step : any_bad (drop i xs) ≡ (ltb 8 (code_of x) || any_bad (drop (i + 1) xs))
  unfolding any_bad
  bad_step = ap any_bad (step xs i x e h)

  -- what is left to store after the op at i
  pub text_turn : (l : List ℕ) (at : ℕ) → sets (sets l at (op_text x)) (at + length (op_text x)) (text_of (drop (i + 1) xs)) ≡ sets l at (text_of (drop i xs))
  text_turn l at = sym (ap (sets l at) text-step ∙ sets_append (op_text x) (text_of (drop (i + 1) xs)) l at)

module _ (xs : List ℕ) (i : ℕ) (h : length xs ≤ i) where
  pub text_done : text_of (drop i xs) ≡ []
  unfolding text_of
  text_done = ap text_of (done xs i h)

  pub bad_done : any_bad (drop i xs) ≡ false
  unfolding any_bad
  bad_done = ap any_bad (done xs i h)

-- what `put_op` stores: the digits, then the letter
pub op_stores : (op r : ℕ) → Width (len_of op) r → (l : List ℕ) (at : ℕ) → set (sets l at (last_digits r (len_of op))) (at + r) (letter_of (code_of op)) ≡ sets l at (op_text op)
op_stores op r w l at =
    ap (λ (k : ℕ). set (sets l at (last_digits r (len_of op))) (at + k) (letter_of (code_of op))) (sym (length_digits r (len_of op)))
    ∙ sym (sets_append (last_digits r (len_of op)) (letter_of (code_of op) ∷ []) l at)
    ∙ ap (λ (t : List ℕ). sets l at t) (sym (op_text_digits op r w))

-- which case `room_of` is
pub room_bad : (b : Bool) (t : ℕ) → cond b None (Some t) ≡ None → b ≡ true
room_bad true t e = refl
room_bad false t e = never (cc)

pub room_some : (b : Bool) (t n : ℕ) → cond b None (Some t) ≡ Some n → (b ≡ false) × (t ≡ n)
room_some true t n e = never (cc)
room_some false t n e = (refl, cc)
