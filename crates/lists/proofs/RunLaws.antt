-- Nothing stands after the last of a kind that a list does not hold: by cases on the first element.
use mathlib.Core.Path.{◌≡◌, refl}
use mathlib.Core.Bool.{Bool, true, false, cond}
use mathlib.Core.List.{List, [], ◌∷◌}
use Rattle.lists.specs.Runs.{holds, after_last}
use Rattle.lists.proofs.Absurd.{never}

pub after_none : {A : Type 0} (p : A → Bool) (xs : List A) → holds p xs ≡ false → after_last p xs ≡ []
unfolding holds after_last
after_none p [] e = refl
after_none {A} p (x ∷ xs) e = go (p x) (holds p xs) e
  where
    go : (t u : Bool) → cond t true u ≡ false → cond u (after_last p xs) (cond t xs []) ≡ []
    go true u h = never (cc)
    go false true h = never (cc)
    go false false h = refl
