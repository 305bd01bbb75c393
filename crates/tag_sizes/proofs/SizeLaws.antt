-- What the code computes at a place is the size of what stands at the front of the bytes behind it.
use Prim.Native.Nat.{ℕ, ◌+◌, ◌*◌, ◌≤◌}
use mathlib.Core.Path.{◌≡◌, refl, sym, ap, ◌∙◌}
use mathlib.Core.List.{List, [], ◌∷◌}
use mathlib.Core.Bool.{Bool, true, false, cond, not}
use lib.Dec.{eqb, ltb}
use Rattle.std.specs.Prelude.{None, Some}
use Rattle.std.specs.Option.{unwrap_or}
use Rattle.std.specs.List.{position_or_len}
use native.Mathlib.Omega.{arith}
use lib.ListN.{length, drop, length-drop}
use lib.Seq.{drop-drop}
use borrow.Author.Tests.{lt-ltb, le-ltb}
use mathlib.Core.Logic.{inl, inr}
use Rattle.std.proofs.lemmas.Bool.{cases_lt}
use Rattle.std.proofs.lemmas.List.Sums.{prefix_len-le-length}
use Rattle.sam.specs.Record.{byte_at, le32}
use Rattle.sam.specs.Tags.{number_size, to_nul, array_size, value_size}
use Rattle.sam.proofs.TagLaws.{byte, number, array_is}

-- ---- the NUL

-- the place of the first NUL, or the end
pub nul_is : (s : List ℕ) → position_or_len (λ (x : ℕ). eqb x 0) s + 1 ≡ to_nul s
unfolding to_nul
nul_is [] = refl
nul_is (x ∷ s) = go (eqb x 0) (nul_is s)
  where
    go : (t : Bool) → position_or_len (λ (y : ℕ). eqb y 0) s + 1 ≡ to_nul s → cond (not t) (1 + position_or_len (λ (y : ℕ). eqb y 0) s) 0 + 1 ≡ cond t 1 (1 + to_nul s)
    go true e = refl
    go false e = omega arith

-- and the end, where none is found
pub nul_or_end : (s : List ℕ) → unwrap_or (cond (ltb (position_or_len (λ (x : ℕ). eqb x 0) s) (length s)) (Some (position_or_len (λ (x : ℕ). eqb x 0) s)) None) (length s) ≡ position_or_len (λ (x : ℕ). eqb x 0) s
nul_or_end s = elim (cases_lt (position_or_len (λ (x : ℕ). eqb x 0) s) (length s)) [ inl h ↦ simp (lt-ltb _ _ h) | inr h ↦ simp (le-ltb _ _ h) (omega (arith, prefix_len-le-length (λ (x : ℕ). not (eqb x 0)) s)) ]

-- ---- an array

pub array_at : (b : List ℕ) (at w n : ℕ) → at + 5 ≤ length b → w ≡ number_size (byte_at b at) → n ≡ le32 b (at + 1) → (w ≡ 0 → ⊥) → 5 + w * n ≡ array_size (drop at b)
array_at b at w n h p q f =
    let e : w ≡ number_size (byte_at (drop at b) 0) = p ∙ ap number_size (sym (byte b at 0 at (omega arith))) in
    ap (λ (k : ℕ). 5 + k * n) e
    ∙ ap (λ (k : ℕ). 5 + number_size (byte_at (drop at b) 0) * k) (q ∙ sym (number b at 1 (at + 1) refl))
    ∙ sym (array_is (drop at b) (simp length-drop (omega arith)) (λ z. f (e ∙ z)))

-- ---- a tag's value

pub value_at : (b : List ℕ) (at : ℕ) → value_size (byte_at b (at + 2)) (drop (at + 3) b) ≡ value_size (byte_at (drop at b) 2) (drop 3 (drop at b))
value_at b at = ap (λ (k : ℕ). value_size k (drop (at + 3) b)) (sym (byte b at 2 (at + 2) refl)) ∙ ap (value_size (byte_at (drop at b) 2)) (sym (drop-drop 3 at b))
