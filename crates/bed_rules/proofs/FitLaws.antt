-- Whether 14 is due of a list is known from a walk along it: an N before any block is before the first, and the last block ends the list where the stretch is open there that makes it.
use Prim.Native.Nat.{ℕ, suc, ◌+◌}
use mathlib.Core.Path.{◌≡◌, refl, sym, ap, ◌∙◌}
use mathlib.Core.Bool.{Bool, true, false, cond, not, ◌&&◌, ◌||◌}
use mathlib.Core.List.{List, [], ◌∷◌, ◌++◌, reverse, reverse-cons}
use native.Mathlib.Omega.{arith}
use borrow.Author.Tests.{eq-eqb, ne_eqb, eqb-true, eqb-false}
use lib.Dec.{eqb}
use lib.ListN.{length}
use Rattle.lists.specs.Runs.{holds}
use Rattle.sam.specs.Op.{ref_len}
use Rattle.bed_rules.specs.Blocks.{is_skip, Block}
use Rattle.bed_rules.specs.Bed.{no_block, skips_last, unfit}
use Rattle.bed_rules.specs.InnerWalk.{block_of, blocks_from, unfit_from}
use Rattle.bed_rules.proofs.WalkLaws.{ended, walked}

-- an op that has a reference base in a block, and whether a list holds one
abbrev is_part : ℕ → Bool
is_part o = not (is_skip o) && not (eqb (ref_len o) 0)

abbrev has : List ℕ → Bool
has xs = holds is_part xs

zero_sum : (a b : ℕ) → eqb (a + b) 0 ≡ (eqb a 0 && eqb b 0)
zero_sum a b = go (eqb a 0) refl (eqb b 0) refl
  where
    go : (t : Bool) → eqb a 0 ≡ t → (u : Bool) → eqb b 0 ≡ u → eqb (a + b) 0 ≡ (t && u)
    go true p true q = eq-eqb (a + b) 0 (let x = eqb-true a 0 p in let y = eqb-true b 0 q in omega arith)
    go true p false q = ne_eqb (a + b) 0 (λ e. eqb-false b 0 q (omega arith))
    go false p u q = ne_eqb (a + b) 0 (λ e. eqb-false a 0 p (omega arith))

-- ---- a list has a block where it has such an op

no_blocks : (start size : ℕ) (xs : List ℕ) → eqb (length (blocks_from start size xs)) 0 ≡ (eqb size 0 && not (has xs))
unfolding blocks_from holds
no_blocks start size [] = go (eqb size 0)
  where
    go : (t : Bool) → eqb (length (ended t start size)) 0 ≡ (t && true)
    go true = refl
    go false = refl
no_blocks start size (o ∷ xs) = go (is_skip o) (no_blocks (start + size + ref_len o) 0 xs) (no_blocks start (size + ref_len o) xs)
  where
    by_size : (t : Bool) (l : List Block) (u : Bool) → eqb (length l) 0 ≡ u → eqb (length (ended t start size ++ l)) 0 ≡ (t && u)
    by_size true l u e = e
    by_size false l u e = ne_eqb (suc (length l)) 0 (λ z. omega arith)

    grown : (z r h : Bool) → (z && r && not h) ≡ (z && not (cond (not r) true h))
    grown true true h = refl
    grown true false h = refl
    grown false r h = refl

    go : (t : Bool) → eqb (length (blocks_from (start + size + ref_len o) 0 xs)) 0 ≡ not (has xs) → eqb (length (blocks_from start (size + ref_len o) xs)) 0 ≡ (eqb (size + ref_len o) 0 && not (has xs))
        → eqb (length (cond t (block_of start size ++ blocks_from (start + size + ref_len o) 0 xs) (blocks_from start (size + ref_len o) xs))) 0 ≡ (eqb size 0 && not (cond (not t && not (eqb (ref_len o) 0)) true (has xs)))
    go true p q = by_size (eqb size 0) (blocks_from (start + size + ref_len o) 0 xs) (not (has xs)) p
    go false p q = q ∙ ap (λ (t : Bool). t && not (has xs)) (zero_sum size (ref_len o)) ∙ grown (eqb size 0) (eqb (ref_len o) 0) (has xs)

no-block : (xs : List ℕ) → no_block xs ≡ not (has xs)
no-block xs = ap (λ (l : List Block). eqb (length l) 0) (walked xs) ∙ no_blocks 0 0 xs

-- ---- an N after the last block, op by op from either end

last_cons : (o : ℕ) (xs : List ℕ) → skips_last (o ∷ xs) ≡ (is_skip o && not (has xs) || skips_last xs)
unfolding skips_last
last_cons o xs = ap (λ (t : Bool). is_skip o && t || skips_last xs) (no-block xs)

has_snoc : (xs : List ℕ) (o : ℕ) → has (xs ++ (o ∷ [])) ≡ (has xs || is_part o)
unfolding holds
has_snoc [] o = go (is_part o)
  where
    go : (t : Bool) → cond t true false ≡ t
    go true = refl
    go false = refl
has_snoc (x ∷ xs) o = go (is_part x) (has_snoc xs o)
  where
    go : (t : Bool) → has (xs ++ (o ∷ [])) ≡ (has xs || is_part o) → cond t true (has (xs ++ (o ∷ []))) ≡ (cond t true (has xs) || is_part o)
    go true e = refl
    go false e = e

last_snoc : (xs : List ℕ) (o : ℕ) → skips_last (xs ++ (o ∷ [])) ≡ (is_skip o || (not (is_part o) && skips_last xs))
unfolding skips_last holds
last_snoc [] o = last_cons o [] ∙ alone (is_skip o) (not (is_part o))
  where
    alone : (s p : Bool) → (s && true || false) ≡ (s || (p && false))
    alone true p = refl
    alone false true = refl
    alone false false = refl
last_snoc (x ∷ xs) o =
    last_cons x (xs ++ (o ∷ []))
    ∙ ap (λ (t : Bool). is_skip x && not t || skips_last (xs ++ (o ∷ []))) (has_snoc xs o)
    ∙ ap (λ (t : Bool). is_skip x && not (has xs || is_part o) || t) (last_snoc xs o)
    ∙ turned (is_part o) (is_skip x) (has xs) (is_skip o) (skips_last xs)
    ∙ ap (λ (t : Bool). is_skip o || (not (is_part o) && t)) (sym (last_cons x xs))
  where
    turned : (p a h s l : Bool) → (a && not (h || p) || (s || (not p && l))) ≡ (s || (not p && (a && not h || l)))
    turned true true true true l = refl
    turned true true true false l = refl
    turned true true false true l = refl
    turned true true false false l = refl
    turned true false h true l = refl
    turned true false h false l = refl
    turned false true true true l = refl
    turned false true true false l = refl
    turned false true false true l = refl
    turned false true false false l = refl
    turned false false h true l = refl
    turned false false h false l = refl

first-cons : (o : ℕ) (xs : List ℕ) → skips_last (reverse (o ∷ xs)) ≡ (is_skip o || (not (is_part o) && skips_last (reverse xs)))
first-cons o xs = rw (reverse-cons o xs) (last_snoc (reverse xs) o)

-- ---- the walk

-- past the first block, or within it
late : (n size : ℕ) (xs : List ℕ) → eqb (n + size) 0 ≡ false → unfit_from n size xs ≡ (eqb size 0 && not (has xs) || skips_last xs)
unfolding unfit_from holds skips_last
late n size [] e = go (eqb size 0)
  where
    go : (t : Bool) → t ≡ (t && true || false)
    go true = refl
    go false = refl
late n size (o ∷ xs) e =
    go (is_skip o) refl (λ s. late (n + length (block_of 0 size)) 0 xs (more (eqb size 0) refl)) (late n (size + ref_len o) xs (ne_eqb (n + (size + ref_len o)) 0 (λ z. eqb-false (n + size) 0 e (omega arith))))
    ∙ ap (λ (t : Bool). eqb size 0 && not (has (o ∷ xs)) || t) (sym (last_cons o xs))
  where
    more : (t : Bool) → eqb size 0 ≡ t → eqb (n + length (ended t 0 size) + 0) 0 ≡ false
    more true q = ne_eqb (n + 0 + 0) 0 (λ z. let y = eqb-true size 0 q in eqb-false (n + size) 0 e (omega arith))
    more false q = ne_eqb (n + 1 + 0) 0 (λ z. omega arith)

    twice : (z h l : Bool) → (not h || l) ≡ (z && not h || (not h || l))
    twice true true l = refl
    twice true false l = refl
    twice false h l = refl

    grown : (z r h l : Bool) → (z && r && not h || l) ≡ (z && not (cond (not r) true h) || l)
    grown true true h l = refl
    grown true false h l = refl
    grown false r h l = refl

    go : (t : Bool) → is_skip o ≡ t → (t ≡ true → unfit_from (n + length (block_of 0 size)) 0 xs ≡ (not (has xs) || skips_last xs)) → unfit_from n (size + ref_len o) xs ≡ (eqb (size + ref_len o) 0 && not (has xs) || skips_last xs)
        → cond t (cond (eqb (n + size) 0) true (unfit_from (n + length (block_of 0 size)) 0 xs)) (unfit_from n (size + ref_len o) xs)
        ≡ (eqb size 0 && not (cond (not t && not (eqb (ref_len o) 0)) true (has xs)) || (t && not (has xs) || skips_last xs))
    go true s p q = rw e (p refl ∙ twice (eqb size 0) (has xs) (skips_last xs))
    go false s p q = q ∙ ap (λ (t : Bool). t && not (has xs) || skips_last xs) (zero_sum size (ref_len o)) ∙ grown (eqb size 0) (eqb (ref_len o) 0) (has xs) (skips_last xs)

-- before the first block
early : (xs : List ℕ) → unfit_from 0 0 xs ≡ (not (has xs) || (skips_last (reverse xs) || skips_last xs))
unfolding unfit_from holds
early [] = refl
early (o ∷ xs) =
    go (is_skip o) (eqb (ref_len o) 0) refl (early xs) (late 0 (ref_len o) xs)
    ∙ ap (λ (t : Bool). not (has (o ∷ xs)) || (t || (is_skip o && not (has xs) || skips_last xs))) (sym (first-cons o xs))
    ∙ ap (λ (t : Bool). not (has (o ∷ xs)) || (skips_last (reverse (o ∷ xs)) || t)) (sym (last_cons o xs))
  where
    none : eqb (ref_len o) 0 ≡ true → unfit_from 0 (0 + ref_len o) xs ≡ unfit_from 0 0 xs
    none z = let y = eqb-true (ref_len o) 0 z in let e : 0 + ref_len o ≡ 0 = omega arith in ap (λ (n : ℕ). unfit_from 0 n xs) e

    some : eqb (ref_len o) 0 ≡ false → eqb (0 + ref_len o) 0 ≡ false
    some z = ne_eqb (0 + ref_len o) 0 (λ y. eqb-false (ref_len o) 0 z (omega arith))

    already : (h : Bool) → true ≡ (not h || true)
    already true = refl
    already false = refl

    go : (t z : Bool) → eqb (ref_len o) 0 ≡ z → unfit_from 0 0 xs ≡ (not (has xs) || (skips_last (reverse xs) || skips_last xs))
        → (eqb (0 + ref_len o) 0 ≡ false → unfit_from 0 (ref_len o) xs ≡ (eqb (ref_len o) 0 && not (has xs) || skips_last xs))
        → cond t true (unfit_from 0 (0 + ref_len o) xs)
        ≡ (not (cond (not t && not z) true (has xs)) || ((t || (not (not t && not z) && skips_last (reverse xs))) || (t && not (has xs) || skips_last xs)))
    go true z e p q = already (has xs)
    go false true e p q = none e ∙ p
    go false false e p q = let s : 0 + ref_len o ≡ ref_len o = omega arith in ap (λ (n : ℕ). unfit_from 0 n xs) s ∙ q (some e) ∙ ap (λ (t : Bool). t && not (has xs) || skips_last xs) e

pub unfit_is : (xs : List ℕ) → unfit xs ≡ unfit_from 0 0 xs
unfolding unfit
unfit_is xs = ap (λ (t : Bool). t || (skips_last (reverse xs) || skips_last xs)) (no-block xs) ∙ sym (early xs)

-- ---- an op more

module _ (n size o : ℕ) (xs : List ℕ) where
  pub fit_early : is_skip o ≡ true → eqb (n + size) 0 ≡ true → unfit_from n size (o ∷ xs) ≡ true
  unfolding unfit_from
  fit_early e z = rw (e, z)

  pub fit_skip : is_skip o ≡ true → eqb (n + size) 0 ≡ false → unfit_from n size (o ∷ xs) ≡ unfit_from (n + length (block_of 0 size)) 0 xs
  unfolding unfit_from
  fit_skip e z = rw (e, z)

  pub fit_other : is_skip o ≡ false → unfit_from n size (o ∷ xs) ≡ unfit_from n (size + ref_len o) xs
  unfolding unfit_from
  fit_other e = rw e
