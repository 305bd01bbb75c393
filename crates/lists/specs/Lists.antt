-- The vocabulary of lists that statements and proofs of all crates share.
use Rattle.std.specs.Prelude.{ℕ, ◌+◌, Bool, true, false, List, [], ◌∷◌, ◌++◌, reverse, length, take, drop}

-- the list as seen from the chosen end
abbrev pub facing : Bool → List ℕ → List ℕ
facing true xs = xs
facing false xs = reverse xs

-- d with vs in place of its elements from index at on
unfoldable pub splice : List ℕ → ℕ → List ℕ → List ℕ
splice d at vs = take at d ++ (vs ++ drop (at + length vs) d)

-- the sum of f over a list
unfoldable pub sum_of : (ℕ → ℕ) → List ℕ → ℕ
sum_of f [] = 0
sum_of f (x ∷ xs) = f x + sum_of f xs

-- P holds of each element
abbrev pub Each : {A : Type 0} → (A → Type 0) → List A → Type 0
Each P [] = Unit {0}
Each P (x ∷ xs) = P x × Each P xs
