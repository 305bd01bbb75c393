-- A list seen from its other end: the query bases that are not up to a reference base lie past it. So with no position clamped, the bases past a position
-- are those over the reference bases past it, from the end that is measured.
use Prim.Native.Nat.{ℕ, ◌+◌, ◌-◌, ◌≤◌, ◌<◌}
use mathlib.Core.Path.{◌≡◌, refl, sym, ap, ◌∙◌}
use mathlib.Core.Bool.{Bool, true, false, cond}
use mathlib.Core.List.{List, [], ◌∷◌, ◌++◌, reverse, reverse-cons}
use mathlib.Core.Logic.{inl}
use native.Mathlib.Omega.{arith}
use lib.IntN.{ℤ}
use lib.Dec.{ltb}
use lib.ListN.{length, get_or, drop}
use mir.Syntax.{w32}
use mir.Val.{SFits}
use borrow.Author.Tests.{ltb-true, ltb-false, lt-ltb, le-ltb}
use Rattle.lists.specs.Lists.{sum_of}
use Rattle.lists.proofs.Sums.{sum_facing}
use Rattle.lists.proofs.Walks.{step, done}
use Rattle.signed.specs.Whole.{raised}
use Rattle.sam.specs.Op.{code_of, is_query, query_len, ref_len}
use Rattle.overhang_rules.specs.Reach.{bases_up_to, up_to}
use Rattle.overhang_rules.specs.Overhang.{bases_past}
use Rattle.overhang_rules.proofs.ReachLaws.{place_is, up_past}
use Rattle.overhang_rules.proofs.Meaning.{both_len, gap_len, places}

-- ---- turns of the walk, with x the op at i

module _ (xs : List ℕ) (i k : ℕ) where
  pub room_done : length xs ≤ i → up_to 0 (drop i xs) k ≡ 0
  unfolding up_to
  room_done h = ap (λ (l : List ℕ). up_to 0 l k) (done xs i h)

  module _ (x : ℕ) (e : x ≡ get_or xs i 0) (h : i < length xs) where
    pub room_out : k < ref_len x → up_to 0 (drop i xs) k ≡ cond (is_query (code_of x)) (k + 0) 0
    unfolding up_to
    room_out l = ap (λ (l : List ℕ). up_to 0 l k) (step xs i x e h) ∙ simp (lt-ltb k (ref_len x) l)

    pub room-turn : ref_len x ≤ k → up_to 0 (drop i xs) k ≡ query_len x + up_to 0 (drop (i + 1) xs) (k - ref_len x)
    unfolding up_to
    room-turn l = ap (λ (l : List ℕ). up_to 0 l k) (step xs i x e h) ∙ simp (le-ltb k (ref_len x) l)

-- ---- over two lists, one after the other

up_to_first : (on : ℕ) (xs ys : List ℕ) (k : ℕ) → k < sum_of ref_len xs → up_to on (xs ++ ys) k ≡ up_to on xs k
unfolding up_to sum_of
up_to_first on [] ys k h = absurd (omega arith)
up_to_first on (o ∷ xs) ys k h = go (ltb k (ref_len o)) refl (λ l. up_to_first on xs ys (k - ref_len o) (omega arith))
  where
    go : (a : Bool) → ltb k (ref_len o) ≡ a → (ref_len o ≤ k → up_to on (xs ++ ys) (k - ref_len o) ≡ up_to on xs (k - ref_len o))
        → cond a (cond (is_query (code_of o)) (k + on) 0) (query_len o + up_to on (xs ++ ys) (k - ref_len o))
        ≡ cond a (cond (is_query (code_of o)) (k + on) 0) (query_len o + up_to on xs (k - ref_len o))
    go true e ih = refl
    go false e ih = ap (λ (n : ℕ). query_len o + n) (ih (ltb-false k (ref_len o) e))

up_to_second : (on : ℕ) (xs ys : List ℕ) (k : ℕ) → sum_of ref_len xs ≤ k → up_to on (xs ++ ys) k ≡ sum_of query_len xs + up_to on ys (k - sum_of ref_len xs)
unfolding up_to sum_of
up_to_second on [] ys k h =
    let e : k ≡ k - 0 = omega arith in
    omega (arith, ap (up_to on ys) e)
up_to_second on (o ∷ xs) ys k h =
    let ih = up_to_second on xs ys (k - ref_len o) (omega arith) in
    let e : k - ref_len o - sum_of ref_len xs ≡ k - (ref_len o + sum_of ref_len xs) = omega arith in
    rw (le-ltb k (ref_len o) (omega arith)) (omega (arith, ih, ap (up_to on ys) e))

up_to_all : (on : ℕ) (xs : List ℕ) (k : ℕ) → sum_of ref_len xs ≤ k → up_to on xs k ≡ sum_of query_len xs
unfolding up_to sum_of
up_to_all on [] k h = refl
up_to_all on (o ∷ xs) k h = rw (le-ltb k (ref_len o) (omega arith)) (ap (λ (n : ℕ). query_len o + n) (up_to_all on xs (k - ref_len o) (omega arith)))

-- ---- from the other end

-- the op that holds reference base k, with the ops after it before it
last_op : (o : ℕ) (xs : List ℕ) (k : ℕ) (q : Bool) → is_query (code_of o) ≡ q → k < ref_len o
    → up_to 0 (reverse xs ++ (o ∷ [])) (ref_len o + sum_of ref_len xs - (k + 1)) ≡ sum_of query_len xs + cond q (ref_len o - (k + 1) + 0) 0
unfolding up_to
last_op o xs k q e l =
    let r = sum_facing ref_len false xs in
    let n = sum_facing query_len false xs in
    let a = up_to_second 0 (reverse xs) (o ∷ []) (ref_len o + sum_of ref_len xs - (k + 1)) (omega arith) in
    let j : ref_len o + sum_of ref_len xs - (k + 1) - sum_of ref_len (reverse xs) ≡ ref_len o - (k + 1) = omega arith in
    let b : up_to 0 (o ∷ []) (ref_len o - (k + 1)) ≡ cond q (ref_len o - (k + 1) + 0) 0 = simp (lt-ltb (ref_len o - (k + 1)) (ref_len o) (omega arith), e) in
    omega (arith, a, ap (up_to 0 (o ∷ [])) j, b)

mirror : (xs : List ℕ) (k : ℕ) → k < sum_of ref_len xs → up_to 1 xs k + up_to 0 (reverse xs) (sum_of ref_len xs - (k + 1)) ≡ sum_of query_len xs
unfolding up_to sum_of
mirror [] k h = absurd (omega arith)
mirror (o ∷ xs) k h = rw (reverse-cons o xs) (go (ltb k (ref_len o)) refl (is_query (code_of o)) refl (λ l. mirror xs (k - ref_len o) (omega arith)))
  where
    go : (a : Bool) → ltb k (ref_len o) ≡ a → (q : Bool) → is_query (code_of o) ≡ q
        → (ref_len o ≤ k → up_to 1 xs (k - ref_len o) + up_to 0 (reverse xs) (sum_of ref_len xs - (k - ref_len o + 1)) ≡ sum_of query_len xs)
        → cond a (cond q (k + 1) 0) (query_len o + up_to 1 xs (k - ref_len o)) + up_to 0 (reverse xs ++ (o ∷ [])) (ref_len o + sum_of ref_len xs - (k + 1))
        ≡ query_len o + sum_of query_len xs
    go true e true f ih =
        let l = ltb-true k (ref_len o) e in
        omega (arith, last_op o xs k true f l, both_len o f (omega arith))
    go true e false f ih = omega (arith, last_op o xs k false f (ltb-true k (ref_len o) e), gap_len o f)
    go false e q f ih =
        let l = ltb-false k (ref_len o) e in
        let r = sum_facing ref_len false xs in
        let a = up_to_first 0 (reverse xs) (o ∷ []) (ref_len o + sum_of ref_len xs - (k + 1)) (omega arith) in
        let j : ref_len o + sum_of ref_len xs - (k + 1) ≡ sum_of ref_len xs - (k - ref_len o + 1) = omega arith in
        omega (arith, a, ap (up_to 0 (reverse xs)) j, ih l)

-- ---- the bases past a position

module _ (t p : ℤ) (xs : List ℕ) (f : SFits w32 t) (g : SFits w32 p) (u : raised t < 4294967295) where
  pub past_left : raised p ≤ raised t → bases_up_to 0 t p xs ≡ up_to 0 xs (raised t - raised p)
  past_left h = sym (place_is 0 t p xs f g) ∙ places 0 (raised t) (raised p) (raised t - raised p) xs (omega arith) (omega arith) (inl u)

  pub past_right : raised t < raised p + sum_of ref_len xs → bases_past t p xs ≡ up_to 0 (reverse xs) (raised p + sum_of ref_len xs - (raised t + 1))
  past_right h = go (ltb (raised t) (raised p)) refl
    where
      go : (a : Bool) → ltb (raised t) (raised p) ≡ a → bases_past t p xs ≡ up_to 0 (reverse xs) (raised p + sum_of ref_len xs - (raised t + 1))
      go true e =
          let l = ltb-true (raised t) (raised p) e in
          let z = sym (place_is 1 t p xs f g) ∙ up_past 1 (raised t) (raised p) xs 0 l in
          let r = sum_facing ref_len false xs in
          let n = sum_facing query_len false xs in
          let a = up_to_all 0 (reverse xs) (raised p + sum_of ref_len xs - (raised t + 1)) (omega arith) in
          omega arith
      go false e =
          let l = ltb-false (raised t) (raised p) e in
          let z = sym (place_is 1 t p xs f g) ∙ places 1 (raised t) (raised p) (raised t - raised p) xs (omega arith) (omega arith) (inl u) in
          let m = mirror xs (raised t - raised p) (omega arith) in
          let j : raised p + sum_of ref_len xs - (raised t + 1) ≡ sum_of ref_len xs - (raised t - raised p + 1) = omega arith in
          omega (arith, z, m, ap (up_to 0 (reverse xs)) j)
