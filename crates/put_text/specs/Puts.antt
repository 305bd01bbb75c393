-- Document 01, "Program": lines of numbers and words. What the writers of this crate promise, and a signed number in decimal.
use Rattle.std.specs.Prelude.{ℕ, ◌+◌, ◌≡◌, List, [], ◌∷◌, ◌++◌, ℤ, pos, negsuc, length, take}
use Rattle.decimal.specs.Decimal.{decimal}

-- decimal without leading zeros, behind a minus where the number is negative
unfoldable pub signed_decimal : ℤ → List ℕ
signed_decimal (pos n) = decimal n
signed_decimal (negsuc n) = 45 ∷ decimal (n + 1)

-- vs stands in memory from a place on, r is the place behind it, and nothing changed before it; what stands behind is left open
pub record Put (d : List ℕ) (at : ℕ) (vs : List ℕ) (r : ℕ) (d' : List ℕ) : Type 0 where
  pub next : r ≡ at + length vs
  pub same : length d' ≡ length d
  pub head : take (at + length vs) d' ≡ take at d ++ vs

-- a minus where z is negative
abbrev pub sign_of : ℤ → List ℕ
sign_of (pos n) = []
sign_of (negsuc n) = 45 ∷ []
