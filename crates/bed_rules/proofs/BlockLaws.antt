-- What holds of blocks goes along the walk, stretch by stretch: sizes and N's make the reference length, each block starts at or behind the end of the one before it; and where 14
-- is not due, the first starts the alignment and the last ends it.
use Prim.Native.Nat.{ℕ, ◌+◌, ◌≤◌, ◌<◌}
use mathlib.Core.Path.{◌≡◌, refl, sym, ap, ◌∙◌}
use mathlib.Core.Bool.{Bool, true, false, cond}
use mathlib.Core.List.{List, [], ◌∷◌, ◌++◌}
use native.Mathlib.Omega.{arith}
use borrow.Author.Tests.{eqb-true, eqb-false}
use lib.Dec.{eqb}
use lib.ListN.{length, take}
use Rattle.lists.specs.Lists.{sum_of}
use Rattle.lists.proofs.Absurd.{false_true}
use Rattle.sam.specs.Op.{len_of, code_of, is_ref, ref_len}
use Rattle.bed_rules.specs.Blocks.{is_skip, Block, blocks}
use Rattle.bed_rules.specs.Bed.{sizes_of, starts_of, unfit, chrom_end}
use Rattle.bed_rules.specs.Meaning.{skip_len, Apart, last_end}
use Rattle.bed_rules.specs.InnerWalk.{block_of, blocks_from, unfit_from}
use Rattle.bed_rules.proofs.WalkLaws.{ended, walked}
use Rattle.bed_rules.proofs.FitLaws.{unfit_is}

-- ---- "Sum of sizes plus the N lengths equals the reference length"

-- an N consumes the reference
pub skip_ref : (o : ℕ) → is_skip o ≡ true → ref_len o ≡ len_of o
unfolding ref_len is_ref
skip_ref o e = let c : code_of o ≡ 3 = eqb-true (code_of o) 3 e in rw c refl

abbrev total : List Block → ℕ
total bs = sum_of (λ n. n) (sizes_of bs)

total_then : (start size : ℕ) (bs : List Block) → total (block_of start size ++ bs) ≡ size + total bs
unfolding sum_of
total_then start size bs = go (eqb size 0) refl
  where
    go : (t : Bool) → eqb size 0 ≡ t → total (ended t start size ++ bs) ≡ size + total bs
    go true e = let z = eqb-true size 0 e in omega arith
    go false e = refl

sums_from : (start size : ℕ) (xs : List ℕ) → total (blocks_from start size xs) + sum_of skip_len xs ≡ size + sum_of ref_len xs
unfolding blocks_from sum_of skip_len
sums_from start size [] = go (eqb size 0) refl
  where
    go : (t : Bool) → eqb size 0 ≡ t → total (ended t start size) + 0 ≡ size + 0
    go true e = let z = eqb-true size 0 e in omega arith
    go false e = omega arith
sums_from start size (o ∷ xs) = go (is_skip o) refl (sums_from (start + size + ref_len o) 0 xs) (sums_from start (size + ref_len o) xs)
  where
    go : (t : Bool) → is_skip o ≡ t → total (blocks_from (start + size + ref_len o) 0 xs) + sum_of skip_len xs ≡ 0 + sum_of ref_len xs
        → total (blocks_from start (size + ref_len o) xs) + sum_of skip_len xs ≡ size + ref_len o + sum_of ref_len xs
        → total (cond t (block_of start size ++ blocks_from (start + size + ref_len o) 0 xs) (blocks_from start (size + ref_len o) xs)) + (cond t (len_of o) 0 + sum_of skip_len xs) ≡ size + (ref_len o + sum_of ref_len xs)
    go true e p q =
        let a = total_then start size (blocks_from (start + size + ref_len o) 0 xs) in
        let r = skip_ref o e in
        omega arith
    go false e p q = omega arith

pub sums : (xs : List ℕ) → sum_of (λ n. n) (sizes_of (blocks xs)) + sum_of skip_len xs ≡ sum_of ref_len xs
sums xs = let e = sums_from 0 0 xs in let w = ap total (walked xs) in omega arith

-- ---- they ascend and don't overlap

pub apart_from : (from start size : ℕ) (xs : List ℕ) → from ≤ start → Apart from (blocks_from start size xs)
unfolding blocks_from
apart_from from start size [] h = go (eqb size 0) refl
  where
    go : (t : Bool) → eqb size 0 ≡ t → Apart from (ended t start size)
    go true e = tt
    go false e = (h, some, tt)
      where
        some : 0 < size
        some = let n = eqb-false size 0 e in omega arith
apart_from from start size (o ∷ xs) h = go (is_skip o) (eqb size 0) refl
    (λ n l. apart_from n (start + size + ref_len o) 0 xs l) (apart_from from start (size + ref_len o) xs h)
  where
    go : (t z : Bool) → eqb size 0 ≡ z → ((n : ℕ) → n ≤ start + size + ref_len o → Apart n (blocks_from (start + size + ref_len o) 0 xs)) → Apart from (blocks_from start (size + ref_len o) xs)
        → Apart from (cond t (ended z start size ++ blocks_from (start + size + ref_len o) 0 xs) (blocks_from start (size + ref_len o) xs))
    go true true e p q = p from (omega arith)
    go true false e p q = (h, let n = eqb-false size 0 e in omega arith, p (start + size) (omega arith))
    go false z e p q = q

pub apart : (xs : List ℕ) → Apart 0 (blocks xs)
apart xs = rw (walked xs) (apart_from 0 0 0 xs (omega arith))

-- ---- where 14 is not due

-- "the first is 0"
first_from : (start size : ℕ) (xs : List ℕ) → unfit_from 0 size xs ≡ false → take 1 (starts_of (blocks_from start size xs)) ≡ start ∷ []
unfolding blocks_from unfit_from
first_from start size [] u = go (eqb size 0) u
  where
    go : (t : Bool) → t ≡ false → take 1 (starts_of (ended t start size)) ≡ start ∷ []
    go true e = false_true (sym e)
    go false e = refl
first_from start size (o ∷ xs) u = go (is_skip o) (eqb size 0) refl u (first_from start (size + ref_len o) xs)
  where
    go : (t z : Bool) → eqb size 0 ≡ z → cond t (cond (eqb (0 + size) 0) true (unfit_from (0 + length (block_of 0 size)) 0 xs)) (unfit_from 0 (size + ref_len o) xs) ≡ false
        → (unfit_from 0 (size + ref_len o) xs ≡ false → take 1 (starts_of (blocks_from start (size + ref_len o) xs)) ≡ start ∷ [])
        → take 1 (starts_of (cond t (ended z start size ++ blocks_from (start + size + ref_len o) 0 xs) (blocks_from start (size + ref_len o) xs))) ≡ start ∷ []
    go true true e v p = false_true (sym v ∙ early (eqb-true size 0 e))
      where
        early : size ≡ 0 → cond (eqb (0 + size) 0) true (unfit_from (0 + length (block_of 0 size)) 0 xs) ≡ true
        early y = rw y refl
    go true false e v p = refl
    go false z e v p = p v

pub first-start : (xs : List ℕ) → unfit xs ≡ false → take 1 (starts_of (blocks xs)) ≡ 0 ∷ []
first-start xs u = rw (walked xs) (first_from 0 0 xs (sym (unfit_is xs) ∙ u))

-- "the last block ends at chromEnd"
end_then : (from start size : ℕ) (bs : List Block) → last_end from (block_of start size ++ bs) ≡ last_end (cond (eqb size 0) from (start + size)) bs
unfolding last_end
end_then from start size bs = go (eqb size 0)
  where
    go : (t : Bool) → last_end from (ended t start size ++ bs) ≡ last_end (cond t from (start + size)) bs
    go true = refl
    go false = refl

last_from : (from n start size : ℕ) (xs : List ℕ) → unfit_from n size xs ≡ false → last_end from (blocks_from start size xs) ≡ start + size + sum_of ref_len xs
unfolding blocks_from unfit_from last_end sum_of
last_from from n start size [] u = go (eqb size 0) u
  where
    go : (t : Bool) → t ≡ false → last_end from (ended t start size) ≡ start + size + 0
    go true e = false_true (sym e)
    go false e = omega arith
last_from from n start size (o ∷ xs) u =
    go (is_skip o) (eqb (n + size) 0) u (last_from (cond (eqb size 0) from (start + size)) (n + length (block_of 0 size)) (start + size + ref_len o) 0 xs) (last_from from n start (size + ref_len o) xs)
  where
    go : (t z : Bool) → cond t (cond z true (unfit_from (n + length (block_of 0 size)) 0 xs)) (unfit_from n (size + ref_len o) xs) ≡ false
        → (unfit_from (n + length (block_of 0 size)) 0 xs ≡ false → last_end (cond (eqb size 0) from (start + size)) (blocks_from (start + size + ref_len o) 0 xs) ≡ start + size + ref_len o + 0 + sum_of ref_len xs)
        → (unfit_from n (size + ref_len o) xs ≡ false → last_end from (blocks_from start (size + ref_len o) xs) ≡ start + (size + ref_len o) + sum_of ref_len xs)
        → last_end from (cond t (block_of start size ++ blocks_from (start + size + ref_len o) 0 xs) (blocks_from start (size + ref_len o) xs)) ≡ start + size + (ref_len o + sum_of ref_len xs)
    go true true v p q = false_true (sym v)
    go true false v p q = end_then from start size (blocks_from (start + size + ref_len o) 0 xs) ∙ p v ∙ omega arith
    go false z v p q = q v ∙ omega arith

pub last-end : (at : ℕ) (xs : List ℕ) (end : ℕ) → unfit xs ≡ false → end ≡ chrom_end at xs → at + last_end 0 (blocks xs) ≡ end
last-end at xs end u e = let l = ap (last_end 0) (walked xs) ∙ last_from 0 0 0 0 xs (sym (unfit_is xs) ∙ u) in omega arith
