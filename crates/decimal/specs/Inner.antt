-- What the functions of this crate promise; no public contract cites it.
use Rattle.std.specs.Prelude.{ℕ, zero, suc, ◌+◌, ◌-◌, ◌/◌, ◌%◌, ◌^◌, ◌≤◌, ◌<◌, List, [], ◌∷◌, ◌++◌}

-- the last k decimal digits of n, the most significant first
unfoldable pub last_digits : ℕ → ℕ → List ℕ
last_digits zero n = []
last_digits (suc k) n = last_digits k (n / 10) ++ ((48 + n % 10) ∷ [])

-- r is the number of decimal digits of n
pub record Width (n r : ℕ) : Type 0 where
  pub some : 0 < r
  pub most : r ≤ 20
  pub below : n < 10 ^ r
  pub least : 1 < r → 10 ^ (r - 1) ≤ n
