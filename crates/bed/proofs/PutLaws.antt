-- Block by block, the sizes fill one output and the starts the other: what was written is the first part of the list, and the block that ends is its next element.
use Prim.Native.Nat.{ℕ, zero, suc, ◌+◌, ◌≤◌, ◌<◌}
use mathlib.Core.Path.{◌≡◌, refl, sym, ap, ◌∙◌}
use mathlib.Core.Bool.{Bool, true, false, cond, not, ◌||◌}
use mathlib.Core.List.{List, [], ◌∷◌, ◌++◌, map}
use native.Mathlib.Omega.{arith}
use borrow.Author.Tests.{lt-ltb, le-ltb}
use lib.Dec.{eqb, ltb}
use lib.ListN.{length, get_or, take, drop, set, length-map}
use lib.Seq.{length-take-le, drop-nil, take_all}
use Rattle.lists.specs.Lists.{splice}
use Rattle.lists.proofs.Absurd.{nil-cons}
use Rattle.lists.proofs.ListLaws.{length_splice, splice_snoc}
use Rattle.lists.proofs.Walks.{step}
use Rattle.bed_rules.specs.Blocks.{is_skip, Block, blocks}
use Rattle.bed_rules.specs.InnerWalk.{blocks_from}
use Rattle.bed_rules.proofs.WalkLaws.{ended}
use Rattle.bed_walk.specs.InnerWalked.{Passes}
use Rattle.bed_walk.specs.declared.Walk.{Walk}
use Rattle.bed_walk.proofs.PassLaws.{Left, end_rest, end-count}

module _ (f : Block → ℕ) where
  take_next : (bs : List Block) (n : ℕ) (b : Block) (rest : List Block) → drop n bs ≡ b ∷ rest → take (suc n) (map f bs) ≡ take n (map f bs) ++ (f b ∷ [])
  take_next [] n b rest e = nil-cons (sym (drop-nil n) ∙ e)
  take_next (a ∷ bs) zero b rest e = let q : a ≡ b = cc in ap (λ (x : Block). f x ∷ []) q
  take_next (a ∷ bs) (suc n) b rest e = ap (λ (l : List ℕ). f a ∷ l) (take_next bs n b rest e)

  -- d with the first n of a list, where the open stretch ends or goes on
  module _ (bs : List Block) (n : ℕ) (d m : List ℕ) (written : m ≡ splice d 0 (take n (map f bs))) (fits : length bs ≤ length d) (some : n ≤ length bs) where
    put_turn : (t : Bool) (start size : ℕ) (rest : List Block) (n' : ℕ) → drop n bs ≡ ended t start size ++ rest → n' ≡ n + length (ended t start size) → n' ≤ length bs
        → cond (ltb n n') (set m n (f (record { start = start; size = size }))) m ≡ splice d 0 (take n' (map f bs))
    put_turn true start size rest n' e c h =
        let q : n ≡ n' = omega arith in
        simp (le-ltb n n' (omega arith)) (written ∙ ap (λ (k : ℕ). splice d 0 (take k (map f bs))) q)
    put_turn false start size rest n' e c h =
        let b : Block = record { start = start; size = size } in
        let l : length (take n (map f bs)) ≡ n = length-take-le n (map f bs) (omega (arith, length-map bs f)) in
        let z : 0 + n ≡ n = omega arith in
        let q : suc n ≡ n' = omega arith in
        simp (lt-ltb n n' (omega arith))
        (ap (λ (o : List ℕ). set o n (f b)) written
        ∙ ap (λ (k : ℕ). set (splice d 0 (take n (map f bs))) k (f b)) (sym z)
        ∙ splice_snoc d 0 (take n (map f bs)) n (f b) l (omega arith)
        ∙ ap (splice d 0) (sym (take_next bs n b rest e))
        ∙ ap (λ (k : ℕ). splice d 0 (take k (map f bs))) q)

  module _ {w : Walk} {i : ℕ} {xs : List ℕ} (l : Left w i xs) (d m : List ℕ) (fits : length (blocks xs) ≤ length d) (written : m ≡ splice d 0 (take w.n (map f (blocks xs)))) where
    some : w.n ≤ length (blocks xs)
    some = omega (arith, l.count)

    pub written-length : length m ≡ length d
    written-length =
        ap length written
        ∙ length_splice d 0 (take w.n (map f (blocks xs))) (omega (arith, length-take-le w.n (map f (blocks xs)) (omega (arith, some, length-map (blocks xs) f))))

    -- an op more
    pub put_next : {w' : Walk} (o : ℕ) → Left w' (i + 1) xs → o ≡ get_or xs i 0 → i < length xs → Passes w o w'
        → cond (ltb w.n w'.n) (set m w.n (f (record { start = w.start; size = w.size }))) m ≡ splice d 0 (take w'.n (map f (blocks xs)))
    put_next {w'} o l' e h p =
        put_turn (blocks xs) w.n d m written fits some (not (is_skip o) || eqb w.size 0) w.start w.size _ w'.n
        (l.rest ∙ ap (blocks_from w.start w.size) (step xs i o e h) ∙ p.blocks (drop (i + 1) xs)) p.count (omega (arith, l'.count))

    -- no op more: the last block
    pub put_last : length xs ≤ i → eqb w.size 0 ≡ false → cond (ltb w.n (w.n + 1)) (set m w.n (f (record { start = w.start; size = w.size }))) m ≡ splice d 0 (map f (blocks xs))
    put_last h z =
        let n = end-count l h z in
        put_turn (blocks xs) w.n d m written fits some false w.start w.size [] (w.n + 1) (l.rest ∙ end_rest l h z) refl (omega arith)
        ∙ ap (splice d 0) (take_all (w.n + 1) (map f (blocks xs)) (omega (arith, length-map (blocks xs) f)))
