-- A block is a stretch of ops between N's, or an N and an end of the list: where one ends an N stands behind it, and before the next.
use Prim.Native.Nat.{ℕ}
use mathlib.Core.Path.{◌≡◌, refl, sym, ap, ◌∙◌}
use mathlib.Core.Bool.{Bool, true, false, cond}
use mathlib.Core.List.{List, [], ◌∷◌, ◌++◌, reverse, append_assoc, reverse-append}
use native.Mathlib.Omega.{arith}
use borrow.Author.Tests.{eqb-false}
use lib.Dec.{eqb}
use Rattle.lists.specs.Lists.{sum_of, Each}
use Rattle.lists.proofs.EachLaws.{each_append}
use Rattle.sam.specs.Op.{ref_len}
use Rattle.sam.proofs.LengthLaws.{reference_length}
use Rattle.bed_rules.specs.Blocks.{is_skip, stretches_from, Block, blocks_of, blocks}
use Rattle.bed_rules.specs.Meaning.{Separated, IsBlock}

-- a stretch, and those behind it
one_more : (P : Block → Type 0) (t : Bool) (b : Block) (bs : List Block) → (t ≡ false → P b) → Each P bs → Each P (cond t bs (b ∷ bs))
one_more P true b bs p q = q
one_more P false b bs p q = (p refl, q)

module _ (xs : List ℕ) where
  a_block : (before ops behind : List ℕ) → xs ≡ before ++ (ops ++ behind) → Each (λ o. is_skip o ≡ false) ops → Separated (reverse before) → Separated behind
      → eqb (sum_of ref_len ops) 0 ≡ false → IsBlock xs (record { start = sum_of ref_len before; size = sum_of ref_len ops })
  a_block before ops behind w own f t e = record {
    before = before;
    ops = ops;
    behind = behind;
    whole = w;
    own = own;
    from = f;
    to = t;
    start_is = reference_length before;
    size_is = reference_length ops;
    some = let n = eqb-false (sum_of ref_len ops) 0 e in omega arith;
  }

  behind_skip : (before ops : List ℕ) (o : ℕ) → is_skip o ≡ true → Separated (reverse (before ++ (ops ++ (o ∷ []))))
  behind_skip before ops o e = rw (sym (append_assoc before ops (o ∷ [])), reverse-append (before ++ ops) (o ∷ [])) e

  blocks_from : (before ops ys : List ℕ) → xs ≡ before ++ (ops ++ ys) → Each (λ o. is_skip o ≡ false) ops → Separated (reverse before) → Each (IsBlock xs) (blocks_of (stretches_from before ops ys))
  unfolding blocks_of stretches_from
  blocks_from before ops [] w own f = one_more (IsBlock xs) (eqb (sum_of ref_len ops) 0) _ [] (a_block before ops [] w own f tt) tt
  blocks_from before ops (o ∷ ys) w own f =
      go (is_skip o) refl
      (blocks_from (before ++ (ops ++ (o ∷ []))) [] ys (w ∙ ap (λ (l : List ℕ). before ++ l) (sym (append_assoc ops (o ∷ []) ys)) ∙ sym (append_assoc before (ops ++ (o ∷ [])) ys)) tt)
      (λ e. blocks_from before (ops ++ (o ∷ [])) ys (w ∙ ap (λ (l : List ℕ). before ++ l) (sym (append_assoc ops (o ∷ []) ys))) (each_append (λ o. is_skip o ≡ false) ops (o ∷ []) own (e, tt)) f)
    where
      go : (t : Bool) → is_skip o ≡ t → (Separated (reverse (before ++ (ops ++ (o ∷ [])))) → Each (IsBlock xs) (blocks_of (stretches_from (before ++ (ops ++ (o ∷ []))) [] ys)))
          → (is_skip o ≡ false → Each (IsBlock xs) (blocks_of (stretches_from before (ops ++ (o ∷ [])) ys)))
          → Each (IsBlock xs) (blocks_of (cond t (record { before = before; ops = ops } ∷ stretches_from (before ++ (ops ++ (o ∷ []))) [] ys) (stretches_from before (ops ++ (o ∷ [])) ys)))
      go true e p q = one_more (IsBlock xs) (eqb (sum_of ref_len ops) 0) _ _ (a_block before ops (o ∷ ys) w own f e) (p (behind_skip before ops o e))
      go false e p q = q e

  pub blocks_are : Each (IsBlock xs) (blocks xs)
  unfolding blocks
  blocks_are = blocks_from [] [] xs refl tt tt
