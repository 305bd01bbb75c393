-- A sum over a list goes part by part, so it is the same from either end, and no less of no less; and the other end of the other end is this one.
use Prim.Native.Nat.{ℕ, ◌+◌, ◌≤◌}
use mathlib.Core.Path.{◌≡◌, refl}
use mathlib.Core.Bool.{Bool, true, false}
use mathlib.Core.List.{List, [], ◌∷◌, ◌++◌, reverse, reverse-cons, reverse-reverse}
use native.Mathlib.Omega.{arith}
use Rattle.lists.specs.Lists.{facing, sum_of}

module _ (f : ℕ → ℕ) where
  pub sum-cons : (x : ℕ) (xs : List ℕ) → sum_of f (x ∷ xs) ≡ f x + sum_of f xs
  unfolding sum_of
  sum-cons x xs = refl

  pub sum-append : (xs ys : List ℕ) → sum_of f (xs ++ ys) ≡ sum_of f xs + sum_of f ys
  unfolding sum_of
  sum-append [] ys = omega arith
  sum-append (x ∷ xs) ys = let e = sum-append xs ys in omega arith

  sum-reverse : (xs : List ℕ) → sum_of f (reverse xs) ≡ sum_of f xs
  unfolding sum_of
  sum-reverse [] = refl
  sum-reverse (x ∷ xs) =
      let e = sum-reverse xs in let a = sum-append (reverse xs) (x ∷ []) in rw (reverse-cons x xs) (omega arith)

  pub sum_facing : (b : Bool) (xs : List ℕ) → sum_of f (facing b xs) ≡ sum_of f xs
  sum_facing true xs = refl
  sum_facing false xs = sum-reverse xs

pub sum-le : (f g : ℕ → ℕ) → ((x : ℕ) → f x ≤ g x) → (xs : List ℕ) → sum_of f xs ≤ sum_of g xs
unfolding sum_of
sum-le f g w [] = omega arith
sum-le f g w (x ∷ xs) = let e = w x in let h = sum-le f g w xs in omega arith

pub facing_facing : (b : Bool) (xs : List ℕ) → facing b (facing b xs) ≡ xs
facing_facing true xs = refl
facing_facing false xs = reverse-reverse xs
