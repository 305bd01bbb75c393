-- The three ways on, an op that is no N, an N behind a stretch of size 0, and an N that ends a block, leave the whole as it was.
use Prim.Native.Nat.{ℕ, ◌+◌, ◌≤◌, ◌<◌}
use mathlib.Core.Path.{◌≡◌, refl, sym, ap, ◌∙◌}
use mathlib.Core.Bool.{Bool, true, false, ◌&&◌}
use mathlib.Core.List.{List, ◌++◌}
use native.Mathlib.Omega.{arith}
use lib.Dec.{eqb}
use lib.ListN.{length, get_or, drop, length-append}
use lib.Seq.{drop-drop, drop-append_seam}
use Rattle.lists.specs.Lists.{sum_of}
use Rattle.lists.proofs.Walks.{step, done, sum_step, sum_done}
use Rattle.lists.proofs.Absurd.{false_true}
use Rattle.sam.specs.Op.{ref_len}
use Rattle.bed_rules.specs.Blocks.{is_skip, Block, blocks}
use Rattle.bed_rules.specs.Bed.{unfit}
use Rattle.bed_rules.specs.InnerWalk.{blocks_from, unfit_from}
use Rattle.bed_rules.proofs.WalkLaws.{ended, walked, from_skip, from_other}
use Rattle.bed_rules.proofs.FitLaws.{unfit_is, fit_early, fit_skip, fit_other}
use Rattle.bed_walk.specs.InnerWalked.{ending, is_early, Passes}
use Rattle.bed_walk.specs.declared.Walk.{Walk}

as_many : (t : Bool) (start size : ℕ) → length (ended t 0 size) ≡ length (ended t start size)
as_many true start size = refl
as_many false start size = refl

module _ (w : Walk) (o r : ℕ) (e : r ≡ ref_len o) where
  pub other : is_skip o ≡ false → Passes w o (record { n = w.n; start = w.start; size = w.size + r })
  other s = record {
    refs = omega arith;
    count = rw s (omega arith);
    blocks = λ xs. rw s (from_other w.start w.size o xs s ∙ ap (λ (n : ℕ). blocks_from w.start (w.size + n) xs) (sym e));
    fit = λ xs f. fit_other w.n w.size o xs s ∙ ap (λ (n : ℕ). unfit_from w.n (w.size + n) xs) (sym e);
  }

  -- an N, by whether the stretch makes a block
  module _ (s : is_skip o ≡ true) (t : Bool) (z : eqb w.size 0 ≡ t) where
    pub skip : (n : ℕ) → n ≡ w.n + length (ended t w.start w.size) → Passes w o (record { n = n; start = w.start + w.size + r; size = 0 })
    skip n c = record {
      refs = omega arith;
      count = rw (s, z) c;
      blocks = λ xs. rw (s, z) (rw z at (from_skip w.start w.size o xs s) ∙ ap (λ (m : ℕ). ended t w.start w.size ++ blocks_from (w.start + w.size + m) 0 xs) (sym e));
      fit = λ xs f. fit_skip w.n w.size o xs s (rw s at f) ∙ ap (λ (m : ℕ). unfit_from m 0 xs) (rw z (ap (λ (k : ℕ). w.n + k) (as_many t w.start w.size) ∙ sym c));
    }

-- behind a part of what is left
drop_past : (bs : List Block) (n : ℕ) (l rest : List Block) → drop n bs ≡ l ++ rest → drop (n + length l) bs ≡ rest
drop_past bs n l rest e = sym (drop-drop (length l) n bs) ∙ ap (drop (length l)) e ∙ drop-append_seam l rest

-- ---- what a walk has passed, at op i of a list, and what is left make the whole

pub record Left (w : Walk) (i : ℕ) (xs : List ℕ) : Type 0 where
  pub few : w.n ≤ i
  pub refs : w.start + w.size + sum_of ref_len (drop i xs) ≡ sum_of ref_len xs
  pub count : w.n + length (blocks_from w.start w.size (drop i xs)) ≡ length (blocks xs)
  pub rest : drop w.n (blocks xs) ≡ blocks_from w.start w.size (drop i xs)
  pub fit : unfit_from w.n w.size (drop i xs) ≡ unfit xs

pub left_all : (xs : List ℕ) → Left (record { n = 0; start = 0; size = 0 }) 0 xs
left_all xs = record {
  few = omega arith;
  refs = omega arith;
  count = let w = ap length (walked xs) in omega arith;
  rest = walked xs;
  fit = sym (unfit_is xs);
}

pub left_turn : {w w' : Walk} {i : ℕ} {xs : List ℕ} (o : ℕ) → Left w i xs → o ≡ get_or xs i 0 → i < length xs → is_early w o ≡ false → Passes w o w' → w'.n ≤ w.n + 1 → Left w' (i + 1) xs
left_turn {w} {w'} {i} {xs} o l e h f p m =
    let s = step xs i o e h in
    let b = ap (blocks_from w.start w.size) s ∙ p.blocks (drop (i + 1) xs) in
    let c = ap length b ∙ length-append (ending w o) (blocks_from w'.start w'.size (drop (i + 1) xs)) in
    record {
      few = omega (arith, l.few);
      refs = omega (arith, l.refs, p.refs, sum_step ref_len xs i o e h);
      count = omega (arith, l.count, p.count);
      rest = ap (λ (n : ℕ). drop n (blocks xs)) p.count ∙ drop_past (blocks xs) w.n (ending w o) _ (l.rest ∙ b);
      fit = sym (p.fit (drop (i + 1) xs) f) ∙ ap (unfit_from w.n w.size) (sym s) ∙ l.fit;
    }

both_true : (t u : Bool) → (t && u) ≡ true → (t ≡ true) × (u ≡ true)
both_true true u e = (refl, e)
both_true false u e = false_true e

pub early_unfit : {w : Walk} {i : ℕ} {xs : List ℕ} (o : ℕ) → Left w i xs → o ≡ get_or xs i 0 → i < length xs → is_early w o ≡ true → unfit xs ≡ true
early_unfit {w} {i} {xs} o l e h t =
    let b = both_true (is_skip o) (eqb (w.n + w.size) 0) t in
    sym l.fit ∙ ap (unfit_from w.n w.size) (step xs i o e h) ∙ fit_early w.n w.size o (drop (i + 1) xs) b.0 b.1

-- so no N is early where 14 is not due
pub fit_not_early : {w : Walk} {i : ℕ} {xs : List ℕ} (o : ℕ) → Left w i xs → o ≡ get_or xs i 0 → i < length xs → unfit xs ≡ false → is_early w o ≡ false
fit_not_early {w} o l e h u = go (is_early w o) refl
  where
    go : (t : Bool) → is_early w o ≡ t → t ≡ false
    go true q = false_true (sym u ∙ early_unfit o l e h q)
    go false q = refl

-- no op is left: the open stretch makes the last block, or 14 is due
module _ {w : Walk} {i : ℕ} {xs : List ℕ} (l : Left w i xs) (h : length xs ≤ i) where
  pub end_fit : (t : Bool) → eqb w.size 0 ≡ t → unfit xs ≡ t
  unfolding unfit_from
  end_fit t e = sym l.fit ∙ ap (unfit_from w.n w.size) (done xs i h) ∙ e

  pub end_refs : w.start + w.size ≡ sum_of ref_len xs
  end_refs = omega (arith, l.refs, sum_done ref_len xs i h)

  module _ (e : eqb w.size 0 ≡ false) where
    pub end_rest : blocks_from w.start w.size (drop i xs) ≡ ended false w.start w.size
    unfolding blocks_from
    end_rest = ap (blocks_from w.start w.size) (done xs i h) ∙ rw e refl

    pub end-count : w.n + 1 ≡ length (blocks xs)
    end-count = omega (arith, l.count, ap length end_rest)
