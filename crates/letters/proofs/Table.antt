-- The rule of a table of 256 entries, sixteen to a number, is one test that antt computes over all entries; what is read at each byte is then the byte's entry.
use Prim.Native.Nat.{ℕ, ◌/◌, ◌%◌, ◌*◌, ◌^◌, ◌≤◌, ◌<◌}
use mathlib.Core.Path.{◌≡◌, refl, ap, ◌∙◌}
use mathlib.Core.Bool.{Bool, true, false, cond}
use mathlib.Core.List.{List}
use native.Mathlib.Omega.{arith}
use lib.ListN.{get_or}
use lib.Dec.{ltb, eqb}
use borrow.Author.Tests.{ltb-true, eqb-true}
use Rattle.lists.proofs.Tables.{below, below_at}
use Rattle.sam.specs.Op.{letters, index_of, letter_code}
use Rattle.letters.specs.Letters.{entry_of}
use Rattle.letters.specs.InnerRow.{row_of}

-- what stands at a byte
abbrev entry_in : List ℕ → ℕ → ℕ
entry_in codes b = row_of codes (b / 16) / 2 ^ (b % 16 * 4) % 16

-- THE RULE: it is the code of the letter, or the mark
abbrev pub right : List ℕ → ℕ → Bool
right codes b = eqb (entry_in codes b) (entry_of b)

pub at_byte : (codes : List ℕ) (b row : ℕ) → row ≡ row_of codes (b / 16) → b < 256 → below (right codes) 256 ≡ true → row / 2 ^ (b % 16 * 4) % 16 ≡ entry_of b
at_byte codes b row p h e =
    ap (λ (w : ℕ). w / 2 ^ (b % 16 * 4) % 16) p ∙ eqb-true (entry_in codes b) (entry_of b) (below_at (right codes) 256 b e h)

-- the table and the letters of codes are inverse
pub inverse : (c : ℕ) → c < 9 → entry_of (get_or letters c 0) ≡ c
unfolding entry_of letter_code index_of
inverse c h = eqb-true _ c (below_at (λ d. eqb (entry_of (get_or letters d 0)) d) 9 c refl h)

-- an entry below the mark is the letter's code, and the mark is no letter's
pub known : (b : ℕ) → entry_of b ≤ 8 → entry_of b ≡ letter_code b
unfolding entry_of
known b = go (ltb 8 (letter_code b))
  where
    go : (t : Bool) → cond t 15 (letter_code b) ≤ 8 → cond t 15 (letter_code b) ≡ letter_code b
    go true h = absurd (omega arith)
    go false h = refl

pub unknown : (b : ℕ) → 8 < entry_of b → 8 < letter_code b
unfolding entry_of
unknown b = go (ltb 8 (letter_code b)) refl
  where
    go : (t : Bool) → ltb 8 (letter_code b) ≡ t → 8 < cond t 15 (letter_code b) → 8 < letter_code b
    go true q h = ltb-true 8 (letter_code b) q
    go false q h = h
