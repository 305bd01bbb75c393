-- What holds of each element of two lists holds of each of both together, and from either end.
use mathlib.Core.List.{List, [], ◌∷◌, ◌++◌, reverse, reverse-cons}
use Rattle.lists.specs.Lists.{Each}

module _ {A : Type 0} (P : A → Type 0) where
  pub each_append : (xs ys : List A) → Each P xs → Each P ys → Each P (xs ++ ys)
  each_append [] ys a b = b
  each_append (x ∷ xs) ys a b = (a.0, each_append xs ys a.1 b)

  pub each_reverse : (xs : List A) → Each P xs → Each P (reverse xs)
  each_reverse [] a = tt
  each_reverse (x ∷ xs) a = rw (reverse-cons x xs) (each_append (reverse xs) (x ∷ []) (each_reverse xs a.1) (a.0, tt))

  pub each_map : (Q : A → Type 0) → ((x : A) → P x → Q x) → (xs : List A) → Each P xs → Each Q xs
  each_map Q f [] a = tt
  each_map Q f (x ∷ xs) a = (f x a.0, each_map Q f xs a.1)
