-- SAM specification 1.4.6, where clips may stand: "H can only be present as the first and/or last operation.
-- S may only have H operations between them and the ends of the CIGAR string."
use Rattle.std.specs.Prelude.{ℕ, ◌≡◌, List, [], ◌∷◌, ◌++◌, ◌⊎◌}
use Rattle.lists.specs.Lists.{Each}
use Rattle.sam.specs.Op.{code_of}

abbrev pub AllHard : List ℕ → Type 0
AllHard xs = Each (λ o. code_of o ≡ 5) xs

pub record WellPlaced (xs : List ℕ) : Type 0 where
  pub hards : (left : List ℕ) (o : ℕ) (right : List ℕ) → xs ≡ left ++ (o ∷ right) → code_of o ≡ 5 → (left ≡ []) ⊎ (right ≡ [])
  pub softs : (left : List ℕ) (o : ℕ) (right : List ℕ) → xs ≡ left ++ (o ∷ right) → code_of o ≡ 4 → AllHard left ⊎ AllHard right
