-- The clips at both ends: a list of clips only is one run, and of any other the two runs are apart, since no run has an op that is no clip.
use mathlib.Core.Path.{◌≡◌, refl, sym, ap, ◌∙◌}
use mathlib.Core.Bool.{Bool, true, false, cond, not, ◌&&◌}
use mathlib.Core.List.{List, [], ◌∷◌}
use Prim.Native.Nat.{ℕ, zero, suc, ◌+◌, ◌-◌, ◌≤◌, ◌<◌}
use native.Mathlib.Omega.{arith}
use lib.ListN.{length, take, drop, length-drop, take-append-drop}
use lib.Dec.{leb}
use borrow.Author.Tests.{leb-true, leb-false}
use Rattle.lists.specs.Lists.{facing, sum_of}
use Rattle.lists.specs.Runs.{leading, after_leading, holds}
use Rattle.lists.proofs.Absurd.{never, false_true}
use Rattle.lists.proofs.ListLaws.{reverse_drop, length_facing}
use Rattle.lists.proofs.Sums.{sum-append, sum_facing}
use Rattle.lists.proofs.Tables.{below_same}
use Rattle.lists.proofs.Walks.{sum_done}
use Rattle.sam.specs.Op.{code_of, is_ref, is_query, ref_len, query_len}
use Rattle.ops.specs.Ops.{is_clip}
use Rattle.clip_run_rules.specs.Clips.{is_soft, len_if, soft_len, hard_len, run, after_run, leading_clips, leading_soft, leading_hard, has_inner, trailing_soft, trailing_hard}
use Rattle.clip_run_rules.specs.InnerWalked.{RunIs}
use Rattle.clip_run_rules.proofs.RunLaws.{run_sum, run_same, run_none, leading_parts}

-- ---- a list of clips only

pub none_soft : (xs : List ℕ) → has_inner xs ≡ false → trailing_soft xs ≡ 0
unfolding trailing_soft
none_soft xs e = simp e

pub none_hard : (xs : List ℕ) → has_inner xs ≡ false → trailing_hard xs ≡ 0
unfolding trailing_hard
none_hard xs e = simp e

all_run : (xs : List ℕ) → has_inner xs ≡ false → run is_clip xs ≡ xs
unfolding has_inner holds leading
all_run [] e = refl
all_run (o ∷ xs) e = go (is_clip (code_of o)) refl e (all_run xs)
  where
    go : (b : Bool) → is_clip (code_of o) ≡ b → cond (not b) true (has_inner xs) ≡ false → (has_inner xs ≡ false → run is_clip xs ≡ xs) → cond b (o ∷ run is_clip xs) [] ≡ o ∷ xs
    go true q h ih = ap (λ (l : List ℕ). o ∷ l) (ih h)
    go false q h ih = never (cc)

-- "the leading pair takes all"
pub all_soft : (xs : List ℕ) → has_inner xs ≡ false → leading_soft xs ≡ sum_of soft_len xs
unfolding leading_soft
all_soft xs e = ap (sum_of soft_len) (all_run xs e)

pub all-hard : (xs : List ℕ) → has_inner xs ≡ false → leading_hard xs ≡ sum_of hard_len xs
unfolding leading_hard
all-hard xs e = ap (sum_of hard_len) (all_run xs e)

-- ---- some op is no clip: the trailing pair is E as seen from the end

module _ (xs : List ℕ) (e : has_inner xs ≡ true) where
  pub some_soft : trailing_soft xs ≡ leading_soft (facing false xs)
  unfolding trailing_soft
  some_soft = simp e

  pub some_hard : trailing_hard xs ≡ leading_hard (facing false xs)
  unfolding trailing_hard
  some_hard = simp e

  pub trailing_parts : trailing_soft xs + trailing_hard xs ≡ leading_clips (facing false xs)
  trailing_parts = omega (arith, some_soft, some_hard, leading_parts (facing false xs))

-- ---- the ops that are no clip, counted

abbrev other : ℕ → ℕ
other o = cond (is_clip (code_of o)) 0 1

run_others : (xs : List ℕ) → sum_of other (run is_clip xs) ≡ 0
run_others xs = run_none is_clip other (λ o e. simp e) xs

-- what stands after a run of clips begins with none
after_others : (xs : List ℕ) → 0 < length (after_run is_clip xs) → 0 < sum_of other (after_run is_clip xs)
unfolding after_leading sum_of
after_others [] h = h
after_others (o ∷ xs) h = go (is_clip (code_of o)) refl (after_others xs) h
  where
    go : (b : Bool) → is_clip (code_of o) ≡ b → (0 < length (after_run is_clip xs) → 0 < sum_of other (after_run is_clip xs))
        → 0 < length (cond b (after_run is_clip xs) (o ∷ xs)) → 0 < sum_of other (cond b (after_run is_clip xs) (o ∷ xs))
    go true e ih k = ih k
    go false e ih k = let q : other o ≡ 1 = simp e in omega arith

no_others : (xs : List ℕ) → sum_of other xs ≡ 0 → has_inner xs ≡ false
unfolding has_inner holds sum_of
no_others [] h = refl
no_others (o ∷ xs) h = go (is_clip (code_of o)) (no_others xs) h
  where
    go : (b : Bool) → (sum_of other xs ≡ 0 → has_inner xs ≡ false) → cond b 0 1 + sum_of other xs ≡ 0 → cond (not b) true (has_inner xs) ≡ false
    go true ih k = ih (omega arith)
    go false ih k = absurd (omega arith)

some_others : (xs : List ℕ) → 0 < sum_of other xs → has_inner xs ≡ true
unfolding has_inner holds sum_of
some_others [] h = absurd (omega arith)
some_others (o ∷ xs) h = go (is_clip (code_of o)) (some_others xs) h
  where
    go : (b : Bool) → (0 < sum_of other xs → has_inner xs ≡ true) → 0 < cond b 0 1 + sum_of other xs → cond (not b) true (has_inner xs) ≡ true
    go true ih k = ih (omega arith)
    go false ih k = refl

-- what is left further on is no more
sum_later : (f : ℕ → ℕ) (xs : List ℕ) (i j : ℕ) → i ≤ j → sum_of f (drop j xs) ≤ sum_of f (drop i xs)
unfolding sum_of
sum_later f xs zero j h = let e = sum-append f (take j xs) (drop j xs) in let d = ap (sum_of f) (take-append-drop j xs) in omega arith
sum_later f xs (suc i) zero h = absurd (omega arith)
sum_later f [] (suc i) (suc j) h = omega arith
sum_later f (x ∷ xs) (suc i) (suc j) h = sum_later f xs i j (omega arith)

-- ---- what a run of clips is in lengths: no reference base, and of query bases the soft

clip_ref : (o : ℕ) → is_clip (code_of o) ≡ true → ref_len o ≡ 0
unfolding is_clip is_ref ref_len
clip_ref o e = go (is_clip (code_of o)) e (below_same (λ c. is_clip c && is_ref c) (λ _. false) 16 (code_of o) refl (omega arith))
  where
    go : (b : Bool) → b ≡ true → (b && is_ref (code_of o)) ≡ false → ref_len o ≡ 0
    go true q h = simp h
    go false q h = false_true q

clip_query : (o : ℕ) → is_clip (code_of o) ≡ true → query_len o ≡ soft_len o
unfolding is_clip is_query query_len len_if
clip_query o e = go (is_clip (code_of o)) e (below_same (λ c. is_clip c && is_query c) is_soft 16 (code_of o) refl (omega arith))
  where
    go : (b : Bool) → b ≡ true → (b && is_query (code_of o)) ≡ is_soft (code_of o) → query_len o ≡ soft_len o
    go true q h = simp h
    go false q h = false_true q

pub run_refs : (xs : List ℕ) → sum_of ref_len (run is_clip xs) ≡ 0
run_refs xs = run_none is_clip ref_len clip_ref xs

pub run_query : (xs : List ℕ) → sum_of query_len (run is_clip xs) ≡ leading_soft xs
unfolding leading_soft
run_query xs = run_same is_clip query_len soft_len clip_query xs

pub clips_refs : (xs : List ℕ) → has_inner xs ≡ false → sum_of ref_len xs ≡ 0
clips_refs xs e = sym (ap (sum_of ref_len) (all_run xs e)) ∙ run_refs xs

pub clips_query : (xs : List ℕ) → has_inner xs ≡ false → sum_of query_len xs ≡ leading_soft xs
clips_query xs e = sym (ap (sum_of query_len) (all_run xs e)) ∙ run_query xs

-- ---- the walk from the start

module _ {xs : List ℕ} {soft hard next : ℕ} (L : RunIs xs 0 is_clip soft hard next) where
  -- no op is left: clips only
  pub clips_only : next ≡ length xs → has_inner xs ≡ false
  clips_only e =
      let r = run_others xs in
      let a = run_sum is_clip other xs in
      let d = ap (sum_of other) L.rest-is in
      let z = sum_done other xs next (omega arith) in
      no_others xs (omega arith)

  -- an op is left, and it is none
  inner_left : next < length xs → 0 < sum_of other (drop next xs)
  inner_left h =
      let e = ap length L.rest-is in
      let l = length-drop next xs in
      let d = ap (sum_of other) L.rest-is in
      let a = after_others xs (omega arith) in
      omega arith

  pub some_inner : next < length xs → has_inner xs ≡ true
  some_inner h =
      let i = inner_left h in
      let a = run_sum is_clip other xs in
      let d = ap (sum_of other) L.rest-is in
      some_others xs (omega arith)

  -- ---- and from the end

  module _ {s h k : ℕ} (T : RunIs (facing false xs) 0 is_clip s h k) where
    -- the run at the end stands behind the ops before it
    run-behind : (f : ℕ → ℕ) → sum_of f (drop (length xs - k) xs) ≡ sum_of f (run is_clip (facing false xs))
    run-behind f =
        let n = length_facing false xs in
        let a = run_sum is_clip f (facing false xs) in
        let r = sum_facing f false xs in
        let d = ap (sum_of f) T.rest-is in
        let b = ap (sum_of f) (reverse_drop xs k (omega (arith, T.next_in))) in
        let c = sum_facing f false (drop k (facing false xs)) in
        let t = sum-append f (take (length xs - k) xs) (drop (length xs - k) xs) in
        let w = ap (sum_of f) (take-append-drop (length xs - k) xs) in
        omega arith

    pub apart : next < length xs → next ≤ length xs - k
    apart h = go (leb next (length xs - k)) refl
      where
        go : (b : Bool) → leb next (length xs - k) ≡ b → next ≤ length xs - k
        go true e = leb-true next (length xs - k) e
        go false e =
            let g = leb-false next (length xs - k) e in
            let i = inner_left h in
            let l = sum_later other xs (length xs - k) next (omega arith) in
            absurd (omega (arith, run-behind other, run_others (facing false xs)))

    -- a sum is that of the two runs and of what stands between
    pub parted : (f : ℕ → ℕ) (n m : ℕ) → n ≡ length xs → m + sum_of f (drop (n - k) xs) ≡ sum_of f (drop next xs)
        → sum_of f (run is_clip xs) + m + sum_of f (run is_clip (facing false xs)) ≡ sum_of f xs
    parted f n m e h =
        let b = ap (λ (j : ℕ). sum_of f (drop (j - k) xs)) e in
        omega (arith, run_sum is_clip f xs, ap (sum_of f) L.rest-is, run-behind f)
