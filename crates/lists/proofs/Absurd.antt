-- What can't be holds of nothing. 0 is never 1, and so two constructors are never equal, from which `cc` proves it: `never (cc)`.
use mathlib.Core.Path.{◌≡◌}
use mathlib.Core.Bool.{true, false}
use mathlib.Core.List.{List, [], ◌∷◌}
use Prim.Native.Nat.{ℕ}
use native.Mathlib.Omega.{arith}

pub never : {A : Type 0} → ◌≡◌ {A = ℕ} 0 1 → A
never e = absurd (omega arith)

pub false_true : {A : Type 0} → false ≡ true → A
false_true e = never (cc)

pub nil-cons : {A B : Type 0} {x : B} {xs : List B} → [] ≡ x ∷ xs → A
nil-cons e = never (cc)
