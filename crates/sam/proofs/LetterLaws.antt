-- A letter's code and a code's letter are inverse, and no letter is a digit: antt computes each test at the nine letters.
use Prim.Native.Nat.{ℕ, suc, ◌<◌}
use mathlib.Core.Path.{◌≡◌, refl, sym}
use mathlib.Core.Bool.{Bool, true, false, cond, not}
use mathlib.Core.List.{List, [], ◌∷◌}
use native.Mathlib.Omega.{arith}
use lib.ListN.{length, get_or}
use lib.Dec.{eqb}
use borrow.Author.Tests.{eqb-true, not-true}
use Rattle.lists.proofs.Tables.{below_at}
use Rattle.sam.specs.Op.{letters, index_of, letter_code}
use Rattle.sam.specs.Text.{is_digit}

pub letter-code : (c : ℕ) → c < 9 → letter_code (get_or letters c 0) ≡ c
unfolding letter_code index_of
letter-code c h = eqb-true _ c (below_at (λ d. eqb (letter_code (get_or letters d 0)) d) 9 c refl h)

pub letter_digit : (c : ℕ) → c < 9 → is_digit (get_or letters c 0) ≡ false
letter_digit c h = not-true _ (below_at (λ d. not (is_digit (get_or letters d 0))) 9 c refl h)

index_at : (b : ℕ) (xs : List ℕ) → index_of b xs < length xs → get_or xs (index_of b xs) 0 ≡ b
unfolding index_of
index_at b [] h = absurd (omega arith)
index_at b (x ∷ xs) h = go (eqb b x) refl h (index_at b xs)
  where
    go : (t : Bool) → eqb b x ≡ t → cond t 0 (suc (index_of b xs)) < suc (length xs) → (index_of b xs < length xs → get_or xs (index_of b xs) 0 ≡ b) → get_or (x ∷ xs) (cond t 0 (suc (index_of b xs))) 0 ≡ b
    go true q k ih = sym (eqb-true b x q)
    go false q k ih = ih (omega arith)

pub code_letter : (b : ℕ) → letter_code b < 9 → get_or letters (letter_code b) 0 ≡ b
unfolding letter_code
code_letter b h = index_at b letters h
