-- The op that decides: its place op by op, as lookup's walk finds it, and what that place means.
use Prim.Native.Nat.{ℕ, ◌+◌, ◌-◌, ◌≤◌, ◌<◌}
use mathlib.Core.Path.{◌≡◌, refl, sym, ap, ◌∙◌}
use mathlib.Core.Bool.{Bool, true, false, cond}
use mathlib.Core.List.{List, [], ◌∷◌, ◌++◌}
use native.Mathlib.Omega.{arith}
use lib.Dec.{ltb}
use lib.ListN.{length, drop, get_or, length-append}
use borrow.Author.Tests.{ltb-true, ltb-false, lt-ltb, le-ltb}
use Rattle.lists.specs.Lists.{sum_of}
use Rattle.lists.proofs.Walks.{step, done}
use Rattle.sam.specs.Op.{ref_len}
use Rattle.lookup_rules.specs.Examined.{reached, first_above, place_of, examined, Deciding}
use Rattle.lookup_rules.specs.Examined as means

-- the first op decides
first : (o k : ℕ) (xs : List ℕ) → k < ref_len o → place_of (o ∷ xs) k ≡ 1
unfolding place_of reached first_above
first o k xs h = rw (lt-ltb k (0 + ref_len o) (omega arith)) refl

-- what comes before all of them is no matter
shifted : (r m k : ℕ) (xs : List ℕ) → r ≤ k → first_above k (reached (r + m) xs) ≡ first_above (k - r) (reached m xs)
unfolding reached first_above
shifted r m k [] h = refl
shifted r m k (o ∷ xs) h = go (ltb k (r + m + ref_len o)) refl (shifted r (m + ref_len o) k xs h)
  where
    go : (b : Bool) → ltb k (r + m + ref_len o) ≡ b → first_above k (reached (r + (m + ref_len o)) xs) ≡ first_above (k - r) (reached (m + ref_len o) xs)
        → cond b 1 (first_above k (reached (r + m + ref_len o) xs) + 1) ≡ cond (ltb (k - r) (m + ref_len o)) 1 (first_above (k - r) (reached (m + ref_len o) xs) + 1)
    go true e ih = let l = ltb-true k (r + m + ref_len o) e in rw (lt-ltb (k - r) (m + ref_len o) (omega arith)) refl
    go false e ih =
        let l = ltb-false k (r + m + ref_len o) e in
        rw (le-ltb (k - r) (m + ref_len o) (omega arith))
        (ap (λ (n : ℕ). n + 1) (ap (λ (s : ℕ). first_above k (reached s xs)) {x = r + m + ref_len o} {y = r + (m + ref_len o)} (omega arith) ∙ ih))

-- or it is passed
next : (o k : ℕ) (xs : List ℕ) → ref_len o ≤ k → place_of (o ∷ xs) k ≡ place_of xs (k - ref_len o) + 1
unfolding place_of reached first_above
next o k xs h =
    rw (le-ltb k (0 + ref_len o) (omega arith))
    (ap (λ (n : ℕ). n + 1) (ap (λ (s : ℕ). first_above k (reached s xs)) {x = 0 + ref_len o} {y = ref_len o + 0} (omega arith) ∙ shifted (ref_len o) 0 k xs h))

-- ---- a turn of the walk

module _ (xs : List ℕ) (i o : ℕ) (e : o ≡ get_or xs i 0) (h : i < length xs) where
  pub place_turn : (k n : ℕ) → n ≡ ref_len o → n ≤ k → i + 1 + place_of (drop (i + 1) xs) (k - n) ≡ i + place_of (drop i xs) k
  place_turn k n f l =
      let w : ref_len o ≤ k = omega arith in
      rw (step xs i o e h, next o k (drop (i + 1) xs) w, f) (omega arith)

  pub place_held : (k n : ℕ) → n ≡ ref_len o → k < n → i + 1 ≡ i + place_of (drop i xs) k
  place_held k n f l =
      let w : k < ref_len o = omega arith in
      rw (step xs i o e h, first o k (drop (i + 1) xs) w) refl

pub place_done : (xs : List ℕ) (i k : ℕ) → length xs ≤ i → i ≡ i + place_of (drop i xs) k
unfolding place_of reached first_above
place_done xs i k h = rw (done xs i h) (omega arith)

-- ---- what the place means

pub place_means : (xs : List ℕ) (k : ℕ) → Deciding xs k (place_of xs k)
unfolding place_of reached first_above sum_of
place_means [] k = means.none (omega arith) refl
place_means (o ∷ xs) k = go (ltb k (ref_len o)) refl (place_means xs (k - ref_len o))
  where
    further : ref_len o ≤ k → Deciding xs (k - ref_len o) (place_of xs (k - ref_len o)) → Deciding (o ∷ xs) k (place_of (o ∷ xs) k)
    further h (means.op left right p e l u n) = means.op (o ∷ left) right p (ap (λ (l : List ℕ). o ∷ l) e) (omega arith) (omega arith) (next o k xs h ∙ ap (λ (n : ℕ). n + 1) n ∙ omega arith)
    further h (means.none l n) = means.none (omega arith) (next o k xs h ∙ ap (λ (n : ℕ). n + 1) n ∙ omega arith)

    go : (b : Bool) → ltb k (ref_len o) ≡ b → Deciding xs (k - ref_len o) (place_of xs (k - ref_len o)) → Deciding (o ∷ xs) k (place_of (o ∷ xs) k)
    go true e d = let l = ltb-true k (ref_len o) e in means.op [] xs o refl (omega arith) (omega arith) (first o k xs l)
    go false e d = further (ltb-false k (ref_len o) e) d

-- and no other number is that place
pub place_only : (xs : List ℕ) (k n : ℕ) → Deciding xs k n → n ≡ place_of xs k
unfolding place_of reached first_above sum_of
place_only xs k n (means.op left right o e l u f) = f ∙ sym (rw e (behind left k l u))
  where
    behind : (ys : List ℕ) (k : ℕ) → sum_of ref_len ys ≤ k → k < sum_of ref_len ys + ref_len o → place_of (ys ++ (o ∷ right)) k ≡ length ys + 1
    behind [] k l u = first o k right (omega arith)
    behind (y ∷ ys) k l u = next y k (ys ++ (o ∷ right)) (omega arith) ∙ ap (λ (n : ℕ). n + 1) (behind ys (k - ref_len y) (omega arith) (omega arith)) ∙ omega arith
place_only xs k n (means.none l f) = f ∙ sym (all xs k l)
  where
    all : (ys : List ℕ) (k : ℕ) → sum_of ref_len ys ≤ k → place_of ys k ≡ length ys
    all [] k l = refl
    all (y ∷ ys) k l = next y k ys (omega arith) ∙ ap (λ (n : ℕ). n + 1) (all ys (k - ref_len y) (omega arith)) ∙ omega arith

-- ---- the count

-- from the start on it is that place, and no other number is
pub examined_means : (xs : List ℕ) (start at : ℕ) → start ≤ at → Deciding xs (at - start) (examined xs start at)
unfolding examined
examined_means xs start at h = rw (le-ltb at start h) (place_means xs (at - start))

pub examined_only : (xs : List ℕ) (start at n : ℕ) → start ≤ at → Deciding xs (at - start) n → n ≡ examined xs start at
unfolding examined
examined_only xs start at n h d = rw (le-ltb at start h) (place_only xs (at - start) n d)

-- "0 for a position before the start"
pub examined_before : (xs : List ℕ) (start at : ℕ) → at < start → examined xs start at ≡ 0
unfolding examined
examined_before xs start at h = rw (lt-ltb at start h) refl

-- "never exceeds the list length"
pub place_most : (xs : List ℕ) (k : ℕ) → place_of xs k ≤ length xs
place_most xs k = least (place_means xs k)
  where
    least : {n : ℕ} → Deciding xs k n → n ≤ length xs
    least (means.op left right o e l u f) = let m = ap length e ∙ length-append left (o ∷ right) in omega arith
    least (means.none l f) = omega arith

pub examined_most : (xs : List ℕ) (start at : ℕ) → examined xs start at ≤ length xs
unfolding examined
examined_most xs start at = go (ltb at start)
  where
    go : (b : Bool) → cond b 0 (place_of xs (at - start)) ≤ length xs
    go true = omega arith
    go false = place_most xs (at - start)
