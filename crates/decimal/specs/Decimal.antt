-- Document 01, module 4: "Decimal without leading zeros [..]; length 0 prints as 0."
use Rattle.std.specs.Prelude.{ℕ, zero, suc, ◌+◌, ◌/◌, ◌%◌, cond, List, [], ◌∷◌, ◌++◌, ltb}

-- n in decimal, its last digit last; the first argument only bounds the recursion
unfoldable pub dec : ℕ → ℕ → List ℕ
dec zero n = []
dec (suc bound) n = cond (ltb n 10) ((48 + n) ∷ []) (dec bound (n / 10) ++ ((48 + n % 10) ∷ []))

unfoldable pub decimal : ℕ → List ℕ
unfolding dec
decimal n = dec (suc n) n
