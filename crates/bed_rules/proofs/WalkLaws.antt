-- The blocks of a list are those of a walk along it that knows the open stretch by its start and its size: each stretch is a part of the list, and lengths add.
use Prim.Native.Nat.{ℕ, ◌+◌}
use mathlib.Core.Path.{◌≡◌, refl, ap, ◌∙◌}
use mathlib.Core.Bool.{Bool, true, false, cond}
use mathlib.Core.List.{List, [], ◌∷◌, ◌++◌}
use native.Mathlib.Omega.{arith}
use lib.Dec.{eqb}
use Rattle.lists.specs.Lists.{sum_of}
use Rattle.lists.proofs.Sums.{sum-append}
use Rattle.sam.specs.Op.{ref_len}
use Rattle.bed_rules.specs.Blocks.{is_skip, stretches_from, Block, blocks_of, blocks}
use Rattle.bed_rules.specs.InnerWalk.{block_of, blocks_from}

-- what a stretch makes, by whether its size is 0
abbrev pub ended : Bool → ℕ → ℕ → List Block
ended t start size = cond t [] (record { start = start; size = size } ∷ [])

pub sum-snoc : (f : ℕ → ℕ) (xs : List ℕ) (o : ℕ) → sum_of f (xs ++ (o ∷ [])) ≡ sum_of f xs + f o
unfolding sum_of
sum-snoc f xs o = let e = sum-append f xs (o ∷ []) in omega arith

-- a stretch, and what follows it
then_blocks : (t : Bool) (b : Block) (l m : List Block) → l ≡ m → cond t l (b ∷ l) ≡ cond t [] (b ∷ []) ++ m
then_blocks true b l m e = e
then_blocks false b l m e = ap (λ (r : List Block). b ∷ r) e

walked_from : (before ops xs : List ℕ) → blocks_of (stretches_from before ops xs) ≡ blocks_from (sum_of ref_len before) (sum_of ref_len ops) xs
unfolding blocks_of stretches_from blocks_from sum_of
walked_from before ops [] = refl
walked_from before ops (o ∷ xs) = go (is_skip o) (walked_from (before ++ (ops ++ (o ∷ []))) [] xs) (walked_from before (ops ++ (o ∷ [])) xs)
  where
    passed : sum_of ref_len (before ++ (ops ++ (o ∷ []))) ≡ sum_of ref_len before + sum_of ref_len ops + ref_len o
    passed = let a = sum-append ref_len before (ops ++ (o ∷ [])) in let e = sum-snoc ref_len ops o in omega arith

    go : (t : Bool) → blocks_of (stretches_from (before ++ (ops ++ (o ∷ []))) [] xs) ≡ blocks_from (sum_of ref_len (before ++ (ops ++ (o ∷ [])))) 0 xs
        → blocks_of (stretches_from before (ops ++ (o ∷ [])) xs) ≡ blocks_from (sum_of ref_len before) (sum_of ref_len (ops ++ (o ∷ []))) xs
        → blocks_of (cond t (record { before = before; ops = ops } ∷ stretches_from (before ++ (ops ++ (o ∷ []))) [] xs) (stretches_from before (ops ++ (o ∷ [])) xs))
        ≡ cond t (block_of (sum_of ref_len before) (sum_of ref_len ops) ++ blocks_from (sum_of ref_len before + sum_of ref_len ops + ref_len o) 0 xs) (blocks_from (sum_of ref_len before) (sum_of ref_len ops + ref_len o) xs)
    go true next more =
        then_blocks (eqb (sum_of ref_len ops) 0) (record { start = sum_of ref_len before; size = sum_of ref_len ops }) _ _ (next ∙ ap (λ (n : ℕ). blocks_from n 0 xs) passed)
    go false next more = more ∙ ap (λ (n : ℕ). blocks_from (sum_of ref_len before) n xs) (sum-snoc ref_len ops o)

pub walked : (xs : List ℕ) → blocks xs ≡ blocks_from 0 0 xs
unfolding blocks sum_of
walked xs = walked_from [] [] xs

-- ---- an op more

module _ (start size o : ℕ) (xs : List ℕ) where
  pub from_skip : is_skip o ≡ true → blocks_from start size (o ∷ xs) ≡ block_of start size ++ blocks_from (start + size + ref_len o) 0 xs
  unfolding blocks_from
  from_skip e = rw e

  pub from_other : is_skip o ≡ false → blocks_from start size (o ∷ xs) ≡ blocks_from start (size + ref_len o) xs
  unfolding blocks_from
  from_other e = rw e
