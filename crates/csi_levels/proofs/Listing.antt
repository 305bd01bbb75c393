-- Numbers put one behind another, and the list of bins by its cases: no level left, and one level more.
use Prim.Native.Nat.{ℕ, zero, suc, ◌+◌, ◌-◌, ◌/◌, ◌<◌, ◌^◌}
use mathlib.Core.Path.{◌≡◌, refl, sym, ap, ◌∙◌}
use mathlib.Core.List.{List, [], ◌∷◌, ◌++◌}
use native.Mathlib.Omega.{arith}
use native.Mathlib.Numerals.{add-one, sub-one}
use lib.ListN.{length, set, length-append}
use Rattle.lists.specs.Lists.{splice}
use Rattle.lists.proofs.ListLaws.{splice_nil, splice_snoc}
use Rattle.csi_rules.specs.Csi.{numbers_from, level_bins, bins_up}

length_from : (a n : ℕ) → length (numbers_from a n) ≡ n
unfolding numbers_from
length_from a zero = refl
length_from a (suc n) = ap suc (length_from (suc a) n)

last_from : (a n : ℕ) → numbers_from a (suc n) ≡ numbers_from a n ++ ((a + n) ∷ [])
unfolding numbers_from
last_from a zero = let e : a + 0 ≡ a = omega arith in rw e
last_from a (suc n) =
    let e : suc a + n ≡ a + suc n = omega arith in
    ap (λ (l : List ℕ). a ∷ l) (last_from (suc a) n ∙ ap (λ (x : ℕ). numbers_from (suc a) n ++ (x ∷ [])) e)

-- stores, one number after another
pub first-none : (out : List ℕ) (at bin : ℕ) → out ≡ splice out at (numbers_from bin 0)
unfolding numbers_from
first-none out at bin = sym (splice_nil out at)

pub one_more : (out now : List ℕ) (at bin j : ℕ) → at + j < length out → now ≡ splice out at (numbers_from bin j) → set now (at + j) (bin + j) ≡ splice out at (numbers_from bin (j + 1))
one_more out now at bin j h e =
    ap (λ (l : List ℕ). set l (at + j) (bin + j)) e
    ∙ splice_snoc out at (numbers_from bin j) j (bin + j) (length_from bin j) h
    ∙ ap (splice out at) (sym (ap (numbers_from bin) (add-one j) ∙ last_from bin j))

pub restated : (now d : List ℕ) (at a n b m : ℕ) → now ≡ splice d at (numbers_from a n) → a ≡ b → n ≡ m → now ≡ splice d at (numbers_from b m)
restated now d at a n b m e p q = e ∙ ap (λ (x : ℕ). splice d at (numbers_from x n)) p ∙ ap (λ (x : ℕ). splice d at (numbers_from b x)) q

module _ (shift beg last : ℕ) where
  pub list_none : (left : ℕ) → left ≡ 0 → bins_up left shift beg last ≡ 0 ∷ []
  unfolding bins_up
  list_none left e = rw e

  pub count_none : (left : ℕ) → left ≡ 0 → 1 ≡ length (bins_up left shift beg last)
  count_none left e = sym (ap length (list_none left e))

  pub list_more : (left : ℕ) → 0 < left → bins_up left shift beg last ≡ bins_up (left - 1) (shift + 3) beg last ++ level_bins left shift beg last
  unfolding bins_up
  list_more zero h = absurd (omega arith)
  list_more (suc left) h = simp sub-one

  pub count_more : (left : ℕ) → 0 < left
      → length (bins_up left shift beg last) ≡ length (bins_up (left - 1) (shift + 3) beg last) + (last / 2 ^ shift - beg / 2 ^ shift + 1)
  count_more left h =
      ap length (list_more left h)
      ∙ length-append (bins_up (left - 1) (shift + 3) beg last) (level_bins left shift beg last)
      ∙ ap (λ (n : ℕ). length (bins_up (left - 1) (shift + 3) beg last) + n) (length_from _ _)
