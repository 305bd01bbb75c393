-- Runs, one op on: an op that passes the test is of the run, any other ends it.
use mathlib.Core.Path.{◌≡◌, refl, sym, ap, ◌∙◌}
use mathlib.Core.Bool.{Bool, true, false, cond, ◌||◌}
use mathlib.Core.List.{List, [], ◌∷◌}
use Prim.Native.Nat.{ℕ, ◌+◌}
use native.Mathlib.Omega.{arith}
use lib.Dec.{eqb}
use lib.ListN.{drop}
use borrow.Author.Tests.{eqb-true}
use Rattle.lists.specs.Lists.{sum_of}
use Rattle.lists.specs.Runs.{leading, after_leading}
use Rattle.lists.proofs.Absurd.{false_true}
use Rattle.lists.proofs.Tables.{below_same}
use Rattle.sam.specs.Op.{len_of, code_of}
use Rattle.ops.specs.Ops.{is_clip}
use Rattle.clip_run_rules.specs.Clips.{is_soft, is_hard, len_if, soft_len, hard_len, run, after_run, leading_clips, leading_soft, leading_hard, outer_hard, next_soft, inside}
use Rattle.clip_run_rules.specs.InnerWalked.{in_mask, RunIs, OuterIs}

module _ (p : ℕ → Bool) where
  module _ (o : ℕ) (xs : List ℕ) where
    pub run_in : (f : ℕ → ℕ) → p (code_of o) ≡ true → sum_of f (run p (o ∷ xs)) ≡ f o + sum_of f (run p xs)
    unfolding leading sum_of
    run_in f e = simp e

    pub run_out : (f : ℕ → ℕ) → p (code_of o) ≡ false → sum_of f (run p (o ∷ xs)) ≡ 0
    unfolding leading sum_of
    run_out f e = simp e

    pub rest_in : p (code_of o) ≡ true → after_run p (o ∷ xs) ≡ after_run p xs
    unfolding after_leading
    rest_in e = simp e

    pub rest_out : p (code_of o) ≡ false → after_run p (o ∷ xs) ≡ o ∷ xs
    unfolding after_leading
    rest_out e = simp e

  pub run-nil : (f : ℕ → ℕ) → sum_of f (run p []) ≡ 0
  unfolding leading sum_of
  run-nil f = refl

  pub rest_nil : after_run p [] ≡ []
  unfolding after_leading
  rest_nil = refl

  -- a run and what stands after it are the list
  pub run_sum : (f : ℕ → ℕ) (xs : List ℕ) → sum_of f (run p xs) + sum_of f (after_run p xs) ≡ sum_of f xs
  unfolding leading after_leading sum_of
  run_sum f [] = refl
  run_sum f (o ∷ xs) = go (p (code_of o)) (run_sum f xs)
    where
      go : (b : Bool) → sum_of f (run p xs) + sum_of f (after_run p xs) ≡ sum_of f xs
          → sum_of f (cond b (o ∷ run p xs) []) + sum_of f (cond b (after_run p xs) (o ∷ xs)) ≡ f o + sum_of f xs
      go true e = omega arith
      go false e = omega arith

  -- what the ops of a run have in common, summed
  pub run_same : (f g : ℕ → ℕ) → ((o : ℕ) → p (code_of o) ≡ true → f o ≡ g o) → (xs : List ℕ) → sum_of f (run p xs) ≡ sum_of g (run p xs)
  unfolding leading sum_of
  run_same f g w [] = refl
  run_same f g w (o ∷ xs) = go (p (code_of o)) refl (run_same f g w xs)
    where
      go : (b : Bool) → p (code_of o) ≡ b → sum_of f (run p xs) ≡ sum_of g (run p xs) → sum_of f (cond b (o ∷ run p xs) []) ≡ sum_of g (cond b (o ∷ run p xs) [])
      go true e h = let q = w o e in omega arith
      go false e h = refl

  -- what no op of a run has, the run has none of
  pub run_none : (f : ℕ → ℕ) → ((o : ℕ) → p (code_of o) ≡ true → f o ≡ 0) → (xs : List ℕ) → sum_of f (run p xs) ≡ 0
  unfolding leading sum_of
  run_none f w [] = refl
  run_none f w (o ∷ xs) = go (p (code_of o)) refl (run_none f w xs)
    where
      go : (b : Bool) → p (code_of o) ≡ b → sum_of f (run p xs) ≡ 0 → sum_of f (cond b (o ∷ run p xs) []) ≡ 0
      go true e h = let q = w o e in omega arith
      go false e h = refl

-- two tests that agree on the codes make the same run
module _ (p q : ℕ → Bool) (same : (o : ℕ) → p (code_of o) ≡ q (code_of o)) where
  runs_same : (xs : List ℕ) → run p xs ≡ run q xs
  unfolding leading
  runs_same [] = refl
  runs_same (o ∷ xs) = rw (same o, runs_same xs) refl

  rests_same : (xs : List ℕ) → after_run p xs ≡ after_run q xs
  unfolding after_leading
  rests_same [] = refl
  rests_same (o ∷ xs) = rw (same o, rests_same xs) refl

-- ---- the masks are the codes

in_hard : (o : ℕ) → in_mask 32 (code_of o) ≡ is_hard (code_of o)
in_hard o = below_same (in_mask 32) is_hard 16 (code_of o) refl (omega arith)

in_soft : (o : ℕ) → in_mask 16 (code_of o) ≡ is_soft (code_of o)
in_soft o = below_same (in_mask 16) is_soft 16 (code_of o) refl (omega arith)

-- ---- the totals

pub len-if : (c o : ℕ) → eqb (code_of o) c ≡ true → len_if c o ≡ len_of o
unfolding len_if
len-if c o e = simp e

clip_parts : (o : ℕ) → is_clip (code_of o) ≡ true → soft_len o + hard_len o ≡ len_of o
unfolding is_clip len_if
clip_parts o e = go (eqb (code_of o) 4) refl (eqb (code_of o) 5) refl (below_same (λ c. is_soft c || is_hard c) is_clip 16 (code_of o) refl (omega arith) ∙ e)
  where
    go : (a : Bool) → eqb (code_of o) 4 ≡ a → (b : Bool) → eqb (code_of o) 5 ≡ b → (a || b) ≡ true → cond a (len_of o) 0 + cond b (len_of o) 0 ≡ len_of o
    go true p true q h = absurd (omega (arith, eqb-true (code_of o) 4 p, eqb-true (code_of o) 5 q))
    go true p false q h = omega arith
    go false p true q h = omega arith
    go false p false q h = false_true h

-- an S, an H, and what is neither
pub soft_op : (o : ℕ) → code_of o ≡ 4 → (is_clip (code_of o) ≡ true) × (soft_len o ≡ len_of o) × (hard_len o ≡ 0)
unfolding is_clip len_if
soft_op o e = rw e (refl, refl, refl)

pub hard_op : (o : ℕ) → code_of o ≡ 5 → (is_clip (code_of o) ≡ true) × (soft_len o ≡ 0) × (hard_len o ≡ len_of o)
unfolding is_clip len_if
hard_op o e = rw e (refl, refl, refl)

pub other_op : (o : ℕ) → eqb (code_of o) 4 ≡ false → eqb (code_of o) 5 ≡ false → is_clip (code_of o) ≡ false
unfolding is_clip
other_op o s h = sym (below_same (λ c. is_soft c || is_hard c) is_clip 16 (code_of o) refl (omega arith)) ∙ simp (s, h)

-- E is its soft and its hard bases
pub leading_parts : (xs : List ℕ) → leading_soft xs + leading_hard xs ≡ leading_clips xs
unfolding leading_soft leading_hard leading_clips leading sum_of
leading_parts [] = refl
leading_parts (o ∷ xs) = go (is_clip (code_of o)) refl (leading_parts xs)
  where
    go : (b : Bool) → is_clip (code_of o) ≡ b → leading_soft xs + leading_hard xs ≡ leading_clips xs
        → sum_of soft_len (cond b (o ∷ run is_clip xs) []) + sum_of hard_len (cond b (o ∷ run is_clip xs) []) ≡ sum_of len_of (cond b (o ∷ run is_clip xs) [])
    go true e h = let p = clip_parts o e in omega arith
    go false e h = refl

-- h, s and the ops inside make the list's total
pub outer_total : (xs : List ℕ) → outer_hard xs + next_soft xs + sum_of len_of (inside xs) ≡ sum_of len_of xs
unfolding outer_hard next_soft inside
outer_total xs = omega (arith, run_sum is_hard len_of xs, run_sum is_soft len_of (after_run is_hard xs))

-- ---- what the walk found

module _ {xs : List ℕ} {soft hard next : ℕ} (E : RunIs xs 0 is_clip soft hard next) where
  pub soft_found : soft ≡ leading_soft xs
  unfolding leading_soft
  soft_found = E.soft_is

  pub hard_found : hard ≡ leading_hard xs
  unfolding leading_hard
  hard_found = E.hard_is

  pub clips_found : soft + hard ≡ leading_clips xs
  clips_found = omega (arith, soft_found, hard_found, leading_parts xs)

module _ {xs : List ℕ} {t h m s u n : ℕ} (H : RunIs xs 0 (in_mask 32) t h m) (S : RunIs xs m (in_mask 16) s u n) where
  after_hard : drop m xs ≡ after_run is_hard xs
  after_hard = H.rest-is ∙ rests_same (in_mask 32) is_hard in_hard xs

  pub outer_found : OuterIs xs h s n
  unfolding outer_hard next_soft inside
  outer_found =
      record {
        hard_is = H.hard_is ∙ ap (sum_of hard_len) (runs_same (in_mask 32) is_hard in_hard xs) ∙ run_same is_hard hard_len len_of (len-if 5) xs;
        soft_is = S.soft_is
            ∙ ap (sum_of soft_len) (runs_same (in_mask 16) is_soft in_soft (drop m xs))
            ∙ run_same is_soft soft_len len_of (len-if 4) (drop m xs)
            ∙ ap (λ (l : List ℕ). sum_of len_of (run is_soft l)) after_hard;
        rest-is = S.rest-is ∙ rests_same (in_mask 16) is_soft in_soft (drop m xs) ∙ ap (after_run is_soft) after_hard;
        next_in = S.next_in;
      }
