-- The reader's stores: an op goes to its place, and the rest after it, as far as there is room.
use Prim.Native.Nat.{ℕ, zero, suc, ◌+◌, ◌-◌, ◌≤◌, ◌<◌}
use mathlib.Core.Path.{◌≡◌, refl}
use mathlib.Core.List.{List, [], ◌∷◌}
use native.Mathlib.Omega.{arith}
use native.Mathlib.Numerals.{add-one}
use lib.ListN.{length, take, set, length-take}
use lib.Seq.{sets}
use Rattle.lists.specs.Lists.{splice}
use Rattle.lists.proofs.Stores.{sets_splice}

module _ (d : List ℕ) (room at : ℕ) (xs : List ℕ) where
  pub put_one : (o : ℕ) (rest : List ℕ) → at < room → xs ≡ o ∷ rest → sets (set d at o) (at + 1) (take (room - (at + 1)) rest) ≡ sets d at (take (room - at) xs)
  put_one o rest h e =
      let k : room - at ≡ suc (room - (at + 1)) = omega arith in
      rw (e, k, add-one at) refl

  pub put_none : xs ≡ [] → sets d at (take (room - at) xs) ≡ d
  put_none e = rw e (go (room - at))
    where
      go : (k : ℕ) → sets d at (take k []) ≡ d
      go zero = refl
      go (suc k) = refl

  pub put_full : room ≤ at → sets d at (take (room - at) xs) ≡ d
  put_full h = let k : room - at ≡ 0 = omega arith in rw k refl

pub put_all : (d xs : List ℕ) → sets d 0 (take (length d) xs) ≡ splice d 0 (take (length d) xs)
put_all d xs = sets_splice d 0 (take (length d) xs) (simp length-take (omega arith))
