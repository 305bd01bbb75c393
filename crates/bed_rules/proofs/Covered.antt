-- A reference base lies in a block exactly where the op that spells its column is no N: the base of such an op lies in the stretch that is open behind it, and blocks stand outside N's.
use Prim.Native.Nat.{ℕ, ◌+◌, ◌-◌, ◌≤◌, ◌<◌}
use mathlib.Core.Path.{◌≡◌, refl, ap, ◌∙◌}
use mathlib.Core.Bool.{Bool, true, false, cond}
use mathlib.Core.List.{List, [], ◌∷◌, ◌++◌}
use mathlib.Core.Logic.{inl, inr}
use native.Mathlib.Omega.{arith}
use borrow.Author.Tests.{eqb-true, ltb-true, ltb-false}
use lib.Dec.{eqb, ltb}
use Rattle.lists.specs.Lists.{sum_of}
use Rattle.lists.proofs.Sums.{sum-cons}
use Rattle.sam.specs.Op.{ref_len}
use Rattle.sam.specs.Columns.{columns, refs}
use Rattle.sam.proofs.LengthLaws.{reference_length}
use Rattle.bed_rules.specs.Blocks.{is_skip, Block, blocks}
use Rattle.bed_rules.specs.Meaning.{Apart, Within, Spelled}
use Rattle.bed_rules.specs.InnerWalk.{block_of, blocks_from}
use Rattle.bed_rules.proofs.WalkLaws.{ended, walked, sum-snoc}
use Rattle.bed_rules.proofs.BlockLaws.{apart_from}

later : (l m : List Block) (k : ℕ) → Within m k → Within (l ++ m) k
later [] m k w = w
later (b ∷ l) m k w = inr (later l m k w)

-- the bases of the open stretch
in_open : (start size : ℕ) (xs : List ℕ) (k : ℕ) → start ≤ k → k < start + size → Within (blocks_from start size xs) k
unfolding blocks_from
in_open start size [] k h l = go (eqb size 0) refl
  where
    go : (t : Bool) → eqb size 0 ≡ t → Within (ended t start size) k
    go true e = let z = eqb-true size 0 e in absurd (omega arith)
    go false e = inl (h, l)
in_open start size (o ∷ xs) k h l = go (is_skip o) (eqb size 0) refl (in_open start (size + ref_len o) xs k h (omega arith))
  where
    go : (t z : Bool) → eqb size 0 ≡ z → Within (blocks_from start (size + ref_len o) xs) k
        → Within (cond t (ended z start size ++ blocks_from (start + size + ref_len o) 0 xs) (blocks_from start (size + ref_len o) xs)) k
    go true true e w = let z = eqb-true size 0 e in absurd (omega arith)
    go true false e w = inl (h, l)
    go false z e w = w

-- no base before the blocks
not-before : (from : ℕ) (bs : List Block) (k : ℕ) → Apart from bs → k < from → Within bs k → ⊥
not-before from [] k a l w = w
not-before from (b ∷ bs) k a l (inl h) = omega (arith, a.0, h.0)
not-before from (b ∷ bs) k a l (inr w) = not-before (b.start + b.size) bs k a.2 (omega (arith, a.0)) w

-- a base at or behind the end of the stretch that ended lies in what follows
next_only : (z : Bool) (start size : ℕ) (bs : List Block) (k : ℕ) → start + size ≤ k → Within (ended z start size ++ bs) k → Within bs k
next_only true start size bs k h w = w
next_only false start size bs k h (inl i) = absurd (omega (arith, i.1))
next_only false start size bs k h (inr w) = w

module _ (o : ℕ) (right : List ℕ) (k : ℕ) where
  covers : (left : List ℕ) (start size : ℕ) → start + size + sum_of ref_len left ≤ k → k < start + size + sum_of ref_len left + ref_len o → is_skip o ≡ false
      → Within (blocks_from start size (left ++ (o ∷ right))) k
  unfolding blocks_from sum_of
  covers [] start size h l e = rw e (in_open start (size + ref_len o) right k (omega arith) (omega arith))
  covers (a ∷ left) start size h l e =
      go (is_skip a) (covers left (start + size + ref_len a) 0 (omega arith) (omega arith) e) (covers left start (size + ref_len a) (omega arith) (omega arith) e)
    where
      go : (t : Bool) → Within (blocks_from (start + size + ref_len a) 0 (left ++ (o ∷ right))) k → Within (blocks_from start (size + ref_len a) (left ++ (o ∷ right))) k
          → Within (cond t (block_of start size ++ blocks_from (start + size + ref_len a) 0 (left ++ (o ∷ right))) (blocks_from start (size + ref_len a) (left ++ (o ∷ right)))) k
      go true p q = later (block_of start size) _ k p
      go false p q = q

  skips : (left : List ℕ) (start size : ℕ) → start + size + sum_of ref_len left ≤ k → k < start + size + sum_of ref_len left + ref_len o → is_skip o ≡ true
      → Within (blocks_from start size (left ++ (o ∷ right))) k → ⊥
  unfolding blocks_from sum_of
  skips [] start size h l e w =
      not-before (start + size + ref_len o) (blocks_from (start + size + ref_len o) 0 right) k (apart_from (start + size + ref_len o) (start + size + ref_len o) 0 right (omega arith)) (omega arith)
      (next_only (eqb size 0) start size _ k (omega arith) (rw e at w))
  skips (a ∷ left) start size h l e w =
      go (is_skip a) (skips left (start + size + ref_len a) 0 (omega arith) (omega arith) e) (skips left start (size + ref_len a) (omega arith) (omega arith) e) w
    where
      go : (t : Bool) → (Within (blocks_from (start + size + ref_len a) 0 (left ++ (o ∷ right))) k → ⊥) → (Within (blocks_from start (size + ref_len a) (left ++ (o ∷ right))) k → ⊥)
          → Within (cond t (block_of start size ++ blocks_from (start + size + ref_len a) 0 (left ++ (o ∷ right))) (blocks_from start (size + ref_len a) (left ++ (o ∷ right)))) k → ⊥
      go true p q v = p (next_only (eqb size 0) start size _ k (omega arith) v)
      go false p q v = q v

-- ---- in the words of columns

module _ {xs : List ℕ} {k o : ℕ} (s : Spelled xs k o) where
  from : sum_of ref_len s.left ≤ k
  from = omega (arith, s.from, reference_length s.left)

  to : k < sum_of ref_len s.left + ref_len o
  to = omega (arith, s.to, reference_length (s.left ++ (o ∷ [])), sum-snoc ref_len s.left o)

  whole : blocks xs ≡ blocks_from 0 0 (s.left ++ (o ∷ s.right))
  whole = walked xs ∙ ap (blocks_from 0 0) s.whole

  pub in_block : is_skip o ≡ false → Within (blocks xs) k
  in_block e = rw whole (covers o s.right k s.left 0 0 (omega (arith, from)) (omega (arith, to)) e)

  pub no_skip : Within (blocks xs) k → is_skip o ≡ false
  no_skip w = go (is_skip o) refl
    where
      go : (t : Bool) → is_skip o ≡ t → t ≡ false
      go true e = absurd (skips o s.right k s.left 0 0 (omega (arith, from)) (omega (arith, to)) e (rw whole at w))
      go false e = refl

-- each reference base of the alignment has such an op
one_more : (a : ℕ) (xs : List ℕ) (k : ℕ) → ref_len a ≤ k → (o : ℕ) × Spelled xs (k - ref_len a) o → (o : ℕ) × Spelled (a ∷ xs) k o
one_more a xs k h (o, s) = (
  o,
  record {
    left = a ∷ s.left;
    right = s.right;
    whole = ap (λ (l : List ℕ). a ∷ l) s.whole;
    from = omega (arith, s.from, reference_length s.left, reference_length (a ∷ s.left), sum-cons ref_len a s.left);
    to = omega (arith, s.to, reference_length (s.left ++ (o ∷ [])), reference_length (a ∷ (s.left ++ (o ∷ []))), sum-cons ref_len a (s.left ++ (o ∷ [])));
  },
)

spelled_at : (xs : List ℕ) (k : ℕ) → k < sum_of ref_len xs → (o : ℕ) × Spelled xs k o
unfolding sum_of
spelled_at [] k l = absurd (omega arith)
spelled_at (a ∷ xs) k l = go (ltb k (ref_len a)) refl (spelled_at xs (k - ref_len a))
  where
    go : (t : Bool) → ltb k (ref_len a) ≡ t → (k - ref_len a < sum_of ref_len xs → (o : ℕ) × Spelled xs (k - ref_len a) o) → (o : ℕ) × Spelled (a ∷ xs) k o
    go true e ih = (a, record { left = []; right = xs; whole = refl; from = omega (arith, reference_length []); to = omega (arith, reference_length (a ∷ []), ltb-true k (ref_len a) e) })
    go false e ih = let h = ltb-false k (ref_len a) e in one_more a xs k h (ih (omega arith))

pub spelled : (xs : List ℕ) (k : ℕ) → k < refs (columns xs) → (o : ℕ) × Spelled xs k o
spelled xs k l = spelled_at xs k (omega (arith, reference_length xs))

-- blocks lie within the alignment
within-from : (start size : ℕ) (xs : List ℕ) (k : ℕ) → Within (blocks_from start size xs) k → k < start + size + sum_of ref_len xs
unfolding blocks_from sum_of
within-from start size [] k w = go (eqb size 0) w
  where
    go : (t : Bool) → Within (ended t start size) k → k < start + size + 0
    go true v = absurd v
    go false (inl i) = omega (arith, i.1)
    go false (inr v) = absurd v
within-from start size (o ∷ xs) k w = go (is_skip o) (eqb size 0) (within-from (start + size + ref_len o) 0 xs k) (within-from start (size + ref_len o) xs k) w
  where
    go : (t z : Bool) → (Within (blocks_from (start + size + ref_len o) 0 xs) k → k < start + size + ref_len o + 0 + sum_of ref_len xs)
        → (Within (blocks_from start (size + ref_len o) xs) k → k < start + (size + ref_len o) + sum_of ref_len xs)
        → Within (cond t (ended z start size ++ blocks_from (start + size + ref_len o) 0 xs) (blocks_from start (size + ref_len o) xs)) k → k < start + size + (ref_len o + sum_of ref_len xs)
    go true true p q v = omega (arith, p v)
    go true false p q (inl i) = omega (arith, i.1)
    go true false p q (inr v) = omega (arith, p v)
    go false z p q v = omega (arith, q v)

pub within_alignment : (xs : List ℕ) (k : ℕ) → Within (blocks xs) k → k < refs (columns xs)
within_alignment xs k w = omega (arith, within-from 0 0 xs k (rw (walked xs) at w), reference_length xs)
