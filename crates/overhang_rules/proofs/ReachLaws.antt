-- The walk over places counts as the definition over positions does; its turns are the definition's clauses.
use Prim.Native.Nat.{ℕ, ◌+◌, ◌-◌, ◌≤◌, ◌<◌, min}
use mathlib.Core.Path.{◌≡◌, refl, ap, ◌∙◌}
use mathlib.Core.Bool.{true, false, cond, ◌&&◌}
use mathlib.Core.List.{List, [], ◌∷◌}
use lib.IntN.{ℤ, pos, ◌+ℤ◌}
use lib.Dec.{ltb}
use lib.ListN.{length, get_or, drop}
use mir.Syntax.{w32}
use mir.Val.{SFits}
use borrow.Author.Tests.{lt-ltb, le-ltb}
use Rattle.lists.proofs.Walks.{step, done}
use Rattle.signed.specs.Whole.{raised, clamp32}
use Rattle.sam.specs.Op.{code_of, is_query, query_len, ref_len}
use Rattle.overhang_rules.specs.Reach.{bases_up_to}
use Rattle.overhang_rules.proofs.Places.{clamp_fits, raised_after, raised_lt, raised_span}

-- `bases_up_to` over places
unfoldable pub up_to_place : ℕ → ℕ → ℕ → List ℕ → ℕ
up_to_place on t p [] = 0
up_to_place on t p (o ∷ xs) =
    cond (ltb t p) 0
    (cond (is_query (code_of o) && ltb (t - p + on) (ref_len o)) (t - p + on)
    (query_len o + up_to_place on t (min (p + ref_len o) 4294967295) xs))

pub place_is : (on : ℕ) (t p : ℤ) (xs : List ℕ) → SFits w32 t → SFits w32 p → up_to_place on (raised t) (raised p) xs ≡ bases_up_to on t p xs
unfolding up_to_place bases_up_to
place_is on t p [] f g = refl
place_is on t p (o ∷ xs) f g =
    rw (raised_lt t p f g, raised_span t p f g, ← place_is on t (clamp32 (p +ℤ pos (ref_len o))) xs f (clamp_fits _), raised_after p (ref_len o) g)

-- ---- turns of the walk, with x the op at i

module _ (on t p : ℕ) (xs : List ℕ) (i : ℕ) where
  pub up_past : t < p → up_to_place on t p xs ≡ 0
  unfolding up_to_place
  up_past h = go xs
    where
      go : (ys : List ℕ) → up_to_place on t p ys ≡ 0
      go [] = refl
      go (o ∷ ys) = simp (lt-ltb t p h)

  pub up_done : length xs ≤ i → up_to_place on t p (drop i xs) ≡ 0
  unfolding up_to_place
  up_done h = ap (up_to_place on t p) (done xs i h)

  module _ (x : ℕ) (e : x ≡ get_or xs i 0) (h : i < length xs) (k : p ≤ t) where
    pub up-cut : (is_query (code_of x) && ltb (t - p + on) (ref_len x)) ≡ true → up_to_place on t p (drop i xs) ≡ t - p + on
    unfolding up_to_place
    up-cut c = ap (up_to_place on t p) (step xs i x e h) ∙ simp (le-ltb t p k, c)

    pub up_turn : (is_query (code_of x) && ltb (t - p + on) (ref_len x)) ≡ false
        → up_to_place on t p (drop i xs) ≡ query_len x + up_to_place on t (min (p + ref_len x) 4294967295) (drop (i + 1) xs)
    unfolding up_to_place
    up_turn c = ap (up_to_place on t p) (step xs i x e h) ∙ simp (le-ltb t p k, c)
