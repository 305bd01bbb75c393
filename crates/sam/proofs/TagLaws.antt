-- The sizes of tags, case by case; a tag that stands whole, and its value; the tags of bytes, one after the other; and what a placeholder is.
use Prim.Native.Nat.{ℕ, zero, suc, ◌+◌, ◌-◌, ◌*◌, ◌≤◌, ◌<◌}
use mathlib.Core.Path.{◌≡◌, refl, sym, ap, ◌∙◌}
use mathlib.Core.Bool.{Bool, true, false, ◌&&◌}
use mathlib.Core.List.{List, [], ◌∷◌}
use native.Mathlib.Omega.{arith}
use lib.Dec.{ltb, eqb}
use lib.ListN.{length, get_or, take, drop, length-drop}
use lib.Seq.{get_or-drop, get_or-take, length-take-le}
use borrow.Author.Tests.{lt-ltb, le-ltb, ltb-true, ltb-false, eq-eqb, ne_eqb, eqb-true, eqb-false}
use Rattle.lists.proofs.Absurd.{false_true}
use Rattle.sam.specs.Op.{len_of, code_of, op_of}
use Rattle.sam.specs.Record.{byte_at, le32}
use Rattle.sam.specs.Tags.{number_size, array_size, value_size, tag_size, tag_at, Ends, Breaks, Then, tags_behind, tags_of, is_placeholder}

-- ---- bytes and numbers behind a place

pub byte : (b : List ℕ) (at i k : ℕ) → at + i ≡ k → byte_at (drop at b) i ≡ byte_at b k
byte b at i k e = get_or-drop at b i 0 ∙ ap (byte_at b) e

pub same_number : (a b c d a' b' c' d' : ℕ) → a ≡ a' → b ≡ b' → c ≡ c' → d ≡ d' → a + 256 * b + 65536 * c + 16777216 * d ≡ a' + 256 * b' + 65536 * c' + 16777216 * d'
same_number a b c d a' b' c' d' p q r s = omega arith

pub number : (b : List ℕ) (at i k : ℕ) → at + i ≡ k → le32 (drop at b) i ≡ le32 b k
number b at i k e =
    same_number _ _ _ _ _ _ _ _ (byte b at i k e) (byte b at (i + 1) (k + 1) (omega arith)) (byte b at (i + 2) (k + 2) (omega arith)) (byte b at (i + 3) (k + 3) (omega arith))

-- ---- an array

pub array_short : (s : List ℕ) → length s < 5 → array_size s ≡ 0
unfolding array_size
array_short s h = simp (lt-ltb (length s) 5 h)

pub array_other : (s : List ℕ) → 5 ≤ length s → number_size (byte_at s 0) ≡ 0 → array_size s ≡ 0
unfolding array_size
array_other s h e = simp (le-ltb (length s) 5 h, eq-eqb (number_size (byte_at s 0)) 0 e)

pub array_is : (s : List ℕ) → 5 ≤ length s → (number_size (byte_at s 0) ≡ 0 → ⊥) → array_size s ≡ 5 + number_size (byte_at s 0) * le32 s 1
unfolding array_size
array_is s h e = simp (le-ltb (length s) 5 h, ne_eqb (number_size (byte_at s 0)) 0 e)

-- an array has its type and its count
pub array_least : (s : List ℕ) → 0 < array_size s → 5 ≤ array_size s
array_least s h = go (ltb (length s) 5) refl (eqb (number_size (byte_at s 0)) 0) refl
  where
    go : (t : Bool) → ltb (length s) 5 ≡ t → (u : Bool) → eqb (number_size (byte_at s 0)) 0 ≡ u → 5 ≤ array_size s
    go true p u q = let z = array_short s (ltb-true (length s) 5 p) in absurd (omega arith)
    go false p true q = let z = array_other s (ltb-false (length s) 5 p) (eqb-true (number_size (byte_at s 0)) 0 q) in absurd (omega arith)
    go false p false q = let z = array_is s (ltb-false (length s) 5 p) (eqb-false (number_size (byte_at s 0)) 0 q) in omega arith

-- ---- a tag

module _ (s : List ℕ) where
  pub tag_short : length s < 3 → tag_size s ≡ 0
  unfolding tag_size
  tag_short h = simp (lt-ltb (length s) 3 h)

  pub tag_unlisted : 3 ≤ length s → value_size (byte_at s 2) (drop 3 s) ≡ 0 → tag_size s ≡ 0
  unfolding tag_size
  tag_unlisted h e = simp (le-ltb (length s) 3 h, eq-eqb (value_size (byte_at s 2) (drop 3 s)) 0 e)

  pub tag_over : 3 ≤ length s → (value_size (byte_at s 2) (drop 3 s) ≡ 0 → ⊥) → length s < 3 + value_size (byte_at s 2) (drop 3 s) → tag_size s ≡ 0
  unfolding tag_size
  tag_over h e k = simp (le-ltb (length s) 3 h, ne_eqb (value_size (byte_at s 2) (drop 3 s)) 0 e, lt-ltb (length s) (3 + value_size (byte_at s 2) (drop 3 s)) k)

  pub tag_is : (value_size (byte_at s 2) (drop 3 s) ≡ 0 → ⊥) → 3 + value_size (byte_at s 2) (drop 3 s) ≤ length s → tag_size s ≡ 3 + value_size (byte_at s 2) (drop 3 s)
  unfolding tag_size
  tag_is e k = simp (le-ltb (length s) 3 (omega arith), ne_eqb (value_size (byte_at s 2) (drop 3 s)) 0 e, le-ltb (length s) (3 + value_size (byte_at s 2) (drop 3 s)) k)

  -- a tag that stands whole
  pub whole : 0 < tag_size s → (3 < tag_size s) × (tag_size s ≤ length s) × (tag_size s ≡ 3 + value_size (byte_at s 2) (drop 3 s))
  whole h = go (ltb (length s) 3) refl (eqb v 0) refl (ltb (length s) (3 + v)) refl
    where
      v : ℕ
      v = value_size (byte_at s 2) (drop 3 s)

      go : (t : Bool) → ltb (length s) 3 ≡ t → (u : Bool) → eqb (value_size (byte_at s 2) (drop 3 s)) 0 ≡ u → (w : Bool) → ltb (length s) (3 + value_size (byte_at s 2) (drop 3 s)) ≡ w
          → (3 < tag_size s) × (tag_size s ≤ length s) × (tag_size s ≡ 3 + value_size (byte_at s 2) (drop 3 s))
      go true p u q w r = let z = tag_short (ltb-true (length s) 3 p) in absurd (omega arith)
      go false p true q w r = let z = tag_unlisted (ltb-false (length s) 3 p) (eqb-true _ 0 q) in absurd (omega arith)
      go false p false q true r = let z = tag_over (ltb-false (length s) 3 p) (eqb-false _ 0 q) (ltb-true (length s) _ r) in absurd (omega arith)
      go false p false q false r =
          let n = eqb-false (value_size (byte_at s 2) (drop 3 s)) 0 q in
          let k = ltb-false (length s) (3 + value_size (byte_at s 2) (drop 3 s)) r in
          let z = tag_is n k in
          (omega arith, omega arith, z)

  module _ (h : 0 < tag_size s) where
    pub value-length : 3 + length (tag_at s).value ≡ tag_size s
    unfolding tag_at
    value-length =
        let l = length-drop 3 s in
        let w = whole h in
        let e : length (take (tag_size s - 3) (drop 3 s)) ≡ tag_size s - 3 = length-take-le (tag_size s - 3) (drop 3 s) (omega arith) in
        omega arith

    pub value-byte : (i k : ℕ) → 3 + i ≡ k → k < tag_size s → byte_at (tag_at s).value i ≡ byte_at s k
    unfolding tag_at
    value-byte i k e g = get_or-take (tag_size s - 3) (drop 3 s) i 0 (omega arith) ∙ byte s 3 i k e

-- ---- the tags of bytes

-- bytes that are passed
passed : (n : ℕ) (s : List ℕ) → tags_behind n s ≡ tags_of (drop n s)
unfolding tags_behind
passed zero [] = refl
passed (suc n) [] = refl
passed zero (x ∷ s) = refl
passed (suc n) (x ∷ s) = passed n s

-- none; a tag that is not whole; a tag with those behind it
pub tags_end : (s : List ℕ) → length s ≤ 0 → tags_of s ≡ Ends
unfolding tags_behind
tags_end [] h = refl
tags_end (x ∷ s) h = absurd (omega arith)

pub tags_break : (s : List ℕ) → 0 < length s → tag_size s ≡ 0 → tags_of s ≡ Breaks
unfolding tags_behind
tags_break [] h e = absurd (omega arith)
tags_break (x ∷ s) h e = simp (eq-eqb (tag_size (x ∷ s)) 0 e)

pub tags_then : (s : List ℕ) → 0 < tag_size s → tags_of s ≡ Then (tag_at s) (tags_of (drop (tag_size s) s))
unfolding tags_behind
tags_then [] h = let w = whole [] h in absurd (omega arith)
tags_then (x ∷ s) h =
    let n : ℕ = tag_size (x ∷ s) in
    let e : n ≡ suc (n - 1) = omega arith in
    simp (ne_eqb (tag_size (x ∷ s)) 0 (λ z. omega arith))
    (ap (Then (tag_at (x ∷ s))) (passed (n - 1) s ∙ ap (λ (k : ℕ). tags_of (drop k (x ∷ s))) {x = suc (n - 1)} {y = n} (sym e)))

-- ---- a placeholder

-- "kSmN" is one, whatever m is
pub placeholder_is : (k m : ℕ) → is_placeholder k (op_of k 4 ∷ op_of m 3 ∷ []) ≡ true
unfolding is_placeholder
placeholder_is k m = simp (eq-eqb (code_of (op_of k 4)) 4 (omega arith), eq-eqb (len_of (op_of k 4)) k (omega arith), eq-eqb (code_of (op_of m 3)) 3 (omega arith))

-- and nothing else is
pub placeholder_only : (k : ℕ) (xs : List ℕ) → is_placeholder k xs ≡ true → xs ≡ op_of k 4 ∷ op_of (len_of (get_or xs 1 0)) 3 ∷ []
unfolding is_placeholder
placeholder_only k [] e = false_true e
placeholder_only k (x ∷ []) e = false_true e
placeholder_only k (x ∷ (y ∷ (z ∷ xs))) e = false_true (simp (ne_eqb (length (x ∷ (y ∷ (z ∷ xs)))) 2 (λ q. omega arith)) at e)
placeholder_only k (x ∷ (y ∷ [])) e = go (eqb (code_of x) 4) refl (eqb (len_of x) k) refl (eqb (code_of y) 3) refl e
  where
    go : (t : Bool) → eqb (code_of x) 4 ≡ t → (u : Bool) → eqb (len_of x) k ≡ u → (v : Bool) → eqb (code_of y) 3 ≡ v → (t && (u && v)) ≡ true
        → x ∷ (y ∷ []) ≡ op_of k 4 ∷ op_of (len_of y) 3 ∷ []
    go true p true q true r e =
        let a = eqb-true (code_of x) 4 p in
        let b = eqb-true (len_of x) k q in
        let c = eqb-true (code_of y) 3 r in
        let d : x ≡ op_of k 4 = omega arith in
        let f : y ≡ op_of (len_of y) 3 = omega arith in
        ap (λ (o : ℕ). o ∷ (y ∷ [])) d ∙ ap (λ (o : ℕ). op_of k 4 ∷ (o ∷ [])) f
    go true p true q false r e = false_true e
    go true p false q v r e = false_true e
    go false p u q v r e = false_true e
