-- Parts of a list that rules speak of: "the leading" elements of a kind, and what stands "after the last" element of a kind (document 01, modules 6 and 7).
use Rattle.std.specs.Prelude.{Bool, true, false, cond, List, [], ◌∷◌}

-- the run of elements of a kind that a list begins with
unfoldable pub leading : {A : Type 0} → (A → Bool) → List A → List A
leading p [] = []
leading p (x ∷ xs) = cond (p x) (x ∷ leading p xs) []

-- what stands after that run
unfoldable pub after_leading : {A : Type 0} → (A → Bool) → List A → List A
after_leading p [] = []
after_leading p (x ∷ xs) = cond (p x) (after_leading p xs) (x ∷ xs)

-- whether a list holds an element of a kind
unfoldable pub holds : {A : Type 0} → (A → Bool) → List A → Bool
holds p [] = false
holds p (x ∷ xs) = cond (p x) true (holds p xs)

-- what stands after the last element of a kind; nothing where there is no such element
unfoldable pub after_last : {A : Type 0} → (A → Bool) → List A → List A
after_last p [] = []
after_last p (x ∷ xs) = cond (holds p xs) (after_last p xs) (cond (p x) xs [])
