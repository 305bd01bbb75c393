-- Two lists are the same by a test exactly where they are equal; and the test goes element by element and part by part.
use Prim.Native.Nat.{ℕ, suc, ◌+◌, ◌≤◌, ◌<◌}
use mathlib.Core.Path.{◌≡◌, refl, sym, ap, ◌∙◌}
use mathlib.Core.Bool.{Bool, true, false, ◌&&◌}
use mathlib.Core.List.{List, [], ◌∷◌, ◌++◌}
use native.Mathlib.Omega.{arith}
use native.Mathlib.Numerals.{add-one}
use borrow.Author.Tests.{eqb-true, eqb-false, eq-eqb}
use lib.Dec.{eqb}
use lib.ListN.{length, get_or, take, drop, length-drop}
use lib.Seq.{take-add, length-take-le, drop-drop, take-suc}
use Rattle.lists.proofs.Absurd.{false_true}
use Rattle.sam.specs.Record.{le32, uint32}
use Rattle.receive_rules.specs.Receiving.{same}

pub same_refl : (xs : List ℕ) → same xs xs ≡ true
unfolding same
same_refl [] = refl
same_refl (x ∷ xs) = simp (eq-eqb x x refl, same_refl xs)

and-true : (p q : Bool) → (p && q) ≡ true → (p ≡ true) × (q ≡ true)
and-true true q h = (refl, h)
and-true false q h = false_true h

pub same_equal : (xs ys : List ℕ) → same xs ys ≡ true → xs ≡ ys
unfolding same
same_equal [] [] h = refl
same_equal [] (y ∷ ys) h = false_true h
same_equal (x ∷ xs) [] h = false_true h
same_equal (x ∷ xs) (y ∷ ys) h =
    let t = and-true (eqb x y) (same xs ys) h in
    ap (λ (n : ℕ). n ∷ xs) (eqb-true x y t.0) ∙ ap (λ (l : List ℕ). y ∷ l) (same_equal xs ys t.1)

-- equal lists are the same
pub equal_same : (xs ys : List ℕ) → xs ≡ ys → same xs ys ≡ true
equal_same xs ys e = ap (λ (l : List ℕ). same l ys) e ∙ same_refl ys

-- lists of two lengths are not
pub lengths_differ : (xs ys : List ℕ) → (length xs ≡ length ys → ⊥) → same xs ys ≡ false
lengths_differ xs ys h = go (same xs ys) refl
  where
    go : (t : Bool) → same xs ys ≡ t → t ≡ false
    go true e = absurd (h (ap length (same_equal xs ys e)))
    go false e = refl

pub and_assoc : (p q r : Bool) → (p && (q && r)) ≡ ((p && q) && r)
and_assoc true q r = refl
and_assoc false q r = refl

and_right : (p : Bool) → (p && true) ≡ p
and_right true = refl
and_right false = refl

-- a part and what follows
pub same_append : (xs us ys vs : List ℕ) → length xs ≡ length us → same (xs ++ ys) (us ++ vs) ≡ (same xs us && same ys vs)
unfolding same
same_append [] [] ys vs h = refl
same_append [] (u ∷ us) ys vs h = absurd (omega arith)
same_append (x ∷ xs) [] ys vs h = absurd (omega arith)
same_append (x ∷ xs) (u ∷ us) ys vs h = ap (λ (t : Bool). eqb x u && t) (same_append xs us ys vs (omega arith)) ∙ and_assoc (eqb x u) (same xs us) (same ys vs)

same_one : (x y : ℕ) → same (x ∷ []) (y ∷ []) ≡ eqb x y
unfolding same
same_one x y = and_right (eqb x y)

-- one turn of a walk
pub same_turn : (xs ys : List ℕ) (j x y : ℕ) → x ≡ get_or xs j 0 → y ≡ get_or ys j 0 → j < length xs → j < length ys
    → (same (take j xs) (take j ys) && eqb x y) ≡ same (take (j + 1) xs) (take (j + 1) ys)
same_turn xs ys j x y p q h k =
    let l : length (take j xs) ≡ j = length-take-le j xs (omega arith) in
    let m : length (take j ys) ≡ j = length-take-le j ys (omega arith) in
    sym
    (ap (λ (n : ℕ). same (take n xs) (take n ys)) (add-one j)
    ∙ ap (λ (l : List ℕ). same l (take (suc j) ys)) (take-suc xs j 0 h)
    ∙ ap (same (take j xs ++ (get_or xs j 0 ∷ []))) (take-suc ys j 0 k)
    ∙ same_append (take j xs) (take j ys) (get_or xs j 0 ∷ []) (get_or ys j 0 ∷ []) (omega arith)
    ∙ ap (λ (t : Bool). same (take j xs) (take j ys) && t)
    (same_one (get_or xs j 0) (get_or ys j 0) ∙ ap (λ (n : ℕ). eqb n (get_or ys j 0)) (sym p) ∙ ap (eqb x) (sym q)))

-- a stretch of g beside two parts
pub same_parts : (g : List ℕ) (at n m : ℕ) (xs ys : List ℕ) → length xs ≡ n → at + n ≤ length g
    → same (take (n + m) (drop at g)) (xs ++ ys) ≡ (same (take n (drop at g)) xs && same (take m (drop (at + n) g)) ys)
same_parts g at n m xs ys e h =
    let d = length-drop at g in
    let l : length (take n (drop at g)) ≡ n = length-take-le n (drop at g) (omega arith) in
    ap (λ (l : List ℕ). same l (xs ++ ys)) (take-add n m (drop at g) ∙ ap (λ (l : List ℕ). take n (drop at g) ++ take m l) (drop-drop n at g))
    ∙ same_append (take n (drop at g)) xs (take m (drop (at + n) g)) ys (omega arith)

back32 : (n : ℕ) (s : List ℕ) → n < 4294967296 → le32 (uint32 n ++ s) 0 ≡ n
back32 n s h = omega arith

-- the bytes of two numbers of 32 bits
pub same_number : (m n : ℕ) → m < 4294967296 → n < 4294967296 → same (uint32 m) (uint32 n) ≡ eqb m n
same_number m n h k = go (eqb m n) refl
  where
    go : (t : Bool) → eqb m n ≡ t → same (uint32 m) (uint32 n) ≡ t
    go true e = equal_same (uint32 m) (uint32 n) (ap uint32 (eqb-true m n e))
    go false e = ended (same (uint32 m) (uint32 n)) refl
      where
        ended : (u : Bool) → same (uint32 m) (uint32 n) ≡ u → u ≡ false
        ended true s = absurd
            (eqb-false m n e (sym (back32 m [] h) ∙ ap (λ (l : List ℕ). le32 (l ++ []) 0) (same_equal (uint32 m) (uint32 n) s) ∙ back32 n [] k))
        ended false s = refl
