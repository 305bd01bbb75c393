-- A tag that holds an array: its type, its count and its numbers; and an array of ops.
use Prim.Native.Nat.{ℕ, ◌+◌, ◌*◌, ◌≤◌, ◌<◌}
use mathlib.Core.Path.{◌≡◌, refl, ap, ◌∙◌}
use mathlib.Core.Bool.{Bool, false}
use mathlib.Core.List.{List}
use native.Mathlib.Omega.{arith}
use lib.Dec.{eqb}
use lib.ListN.{drop, length-drop}
use borrow.Author.Tests.{eq-eqb, ne_eqb}
use Rattle.sam.specs.Record.{byte_at, le32}
use Rattle.sam.specs.Tags.{number_size, array_size, value_size, tag_size, tag_at, is_op_array, array_count}
use Rattle.sam.proofs.TagLaws.{byte, same_number, number, array_is, array_least, whole, value-byte}

four : number_size 73 ≡ 4
unfolding number_size
four = refl

module _ (s : List ℕ) (h : 0 < tag_size s) where
  -- an array in a tag: its type, its count
  pub array-fits : byte_at s 2 ≡ 66 → 8 ≤ tag_size s
  unfolding value_size
  array-fits e =
      let w = whole s h in
      let v : value_size (byte_at s 2) (drop 3 s) ≡ array_size (drop 3 s) = ap (λ (k : ℕ). value_size k (drop 3 s)) e in
      let a = array_least (drop 3 s) (omega arith) in
      omega arith

  pub count-is : byte_at s 2 ≡ 66 → array_count (tag_at s) ≡ le32 s 4
  count-is e =
      let f = array-fits e in
      same_number _ _ _ _ _ _ _ _ (value-byte s h 1 4 refl (omega arith)) (value-byte s h 2 5 refl (omega arith)) (value-byte s h 3 6 refl (omega arith)) (value-byte s h 4 7 refl (omega arith))

  pub no-array : (byte_at s 2 ≡ 66 → ⊥) → is_op_array (tag_at s) ≡ false
  unfolding is_op_array tag_at
  no-array f = simp (ne_eqb (byte_at s 2) 66 f)

  pub array-of-ops : byte_at s 2 ≡ 66 → (t : Bool) → eqb (byte_at s 3) 73 ≡ t → is_op_array (tag_at s) ≡ t
  unfolding is_op_array tag_at
  array-of-ops e t f = let a = array-fits e in simp (eq-eqb (byte_at s 2) 66 e) (ap (λ (k : ℕ). eqb k 73) (value-byte s h 0 3 refl (omega arith)) ∙ f)

  -- an array of ops in a tag
  pub ops_size : byte_at s 2 ≡ 66 → byte_at s 3 ≡ 73 → tag_size s ≡ 8 + 4 * le32 s 4
  unfolding value_size
  ops_size e f =
      let w = whole s h in
      let r = array-fits e in
      let l = length-drop 3 s in
      let n = number s 3 1 4 refl in
      let k : number_size (byte_at (drop 3 s) 0) ≡ 4 = ap number_size (byte s 3 0 3 refl ∙ f) ∙ four in
      let v : value_size (byte_at s 2) (drop 3 s) ≡ array_size (drop 3 s) = ap (λ (k : ℕ). value_size k (drop 3 s)) e in
      let a : array_size (drop 3 s) ≡ 5 + 4 * le32 (drop 3 s) 1 =
      array_is (drop 3 s) (omega arith) (λ z. omega arith) ∙ ap (λ (j : ℕ). 5 + j * le32 (drop 3 s) 1) k in
      omega arith
