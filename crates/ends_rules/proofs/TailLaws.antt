-- An op moves the walk's sums as the words for the rest say: a reference op begins a new run of clips, a clip lengthens the run, and any other op does neither.
use Prim.Native.Nat.{ℕ, ◌+◌, ◌≤◌, max}
use Rattle.lists.proofs.RunLaws.{after_none}
use mathlib.Core.Path.{◌≡◌, refl, sym, ap, ◌∙◌}
use mathlib.Core.Bool.{Bool, true, false, cond}
use mathlib.Core.List.{List, [], ◌∷◌}
use native.Mathlib.Omega.{arith}
use Rattle.lists.specs.Lists.{sum_of}
use Rattle.lists.specs.Runs.{leading, holds, after_last}
use Rattle.sam.specs.Op.{len_of, code_of, ref_len}
use Rattle.ops.specs.Ops.{is_clip}
use Rattle.clip_run_rules.specs.Clips.{clip_len, clips_after_reference}
use Rattle.ends_rules.specs.declared.Tail.{Tail}
use Rattle.ends_rules.specs.Tails.{ref_op, clips_to_next, greatest_run}
use Rattle.ends_rules.specs.InnerTails.{Met, met}

met_eq : {a b c a' b' c' : ℕ} → a ≡ a' → b ≡ b' → c ≡ c' → ◌≡◌ {A = Met} (record { refs = a; clips = b; most = c }) (record { refs = a'; clips = b'; most = c' })
met_eq e f g = cc

pub sum_pick : (f : ℕ → ℕ) (t : Bool) (xs ys : List ℕ) → sum_of f (cond t xs ys) ≡ cond t (sum_of f xs) (sum_of f ys)
sum_pick f true xs ys = refl
sum_pick f false xs ys = refl

-- ---- the words, one op on

module _ (o : ℕ) (xs : List ℕ) where
  module _ (e : ref_op o ≡ true) where
    pub next-ref : clips_to_next (o ∷ xs) ≡ 0
    unfolding clips_to_next leading sum_of
    next-ref = simp e

    pub run-ref : greatest_run (o ∷ xs) ≡ max (clips_to_next xs) (greatest_run xs)
    unfolding greatest_run
    run-ref = simp e

    clips-ref : (x : ℕ) → cond (holds ref_op (o ∷ xs)) (clips_after_reference (o ∷ xs)) x ≡ cond (holds ref_op xs) (clips_after_reference xs) (sum_of clip_len xs)
    unfolding holds after_last clips_after_reference
    clips-ref x = simp e (sum_pick clip_len (holds ref_op xs) (after_last ref_op xs) xs)

    len-ref : ref_len o ≡ len_of o
    unfolding ref_len
    len-ref = simp e

  module _ (e : ref_op o ≡ false) where
    pub next-other : clips_to_next (o ∷ xs) ≡ clip_len o + clips_to_next xs
    unfolding clips_to_next leading sum_of
    next-other = simp e

    pub run-other : greatest_run (o ∷ xs) ≡ max 0 (greatest_run xs)
    unfolding greatest_run
    run-other = simp e

    clips-other : (x : ℕ) → cond (holds ref_op (o ∷ xs)) (clips_after_reference (o ∷ xs)) x ≡ cond (holds ref_op xs) (clips_after_reference xs) x
    unfolding holds after_last clips_after_reference
    clips-other x = simp e (go (holds ref_op xs))
      where
        go : (t : Bool) → cond t (sum_of clip_len (cond t (after_last ref_op xs) [])) x ≡ cond t (sum_of clip_len (after_last ref_op xs)) x
        go true = refl
        go false = refl

    len-other : ref_len o ≡ 0
    unfolding ref_len
    len-other = simp e

  sum-cons : (f : ℕ → ℕ) → sum_of f (o ∷ xs) ≡ f o + sum_of f xs
  unfolding sum_of
  sum-cons f = refl

pub no_clip : (o : ℕ) → is_clip (code_of o) ≡ false → clip_len o ≡ 0
unfolding clip_len
no_clip o e = simp e

pub clip-len : (o : ℕ) → is_clip (code_of o) ≡ true → clip_len o ≡ len_of o
unfolding clip_len
clip-len o e = simp e

-- ---- the walk, one op on

module _ (w : Tail) (o : ℕ) (xs : List ℕ) (h : w.clips ≤ w.most) where
  pub meets_ref : (n : ℕ) → n ≡ len_of o → ref_op o ≡ true
      → met (record { refs = w.refs + n; clips = 0; most = w.most; saw = true }) xs ≡ met w (o ∷ xs)
  unfolding met
  meets_ref n f e =
      let r = sum-cons o xs ref_len in
      let l = len-ref o xs e in
      let z : 0 + sum_of clip_len xs ≡ sum_of clip_len xs = omega arith in
      met_eq (omega arith)
      (ap (cond (holds ref_op xs) (clips_after_reference xs)) z ∙ sym (clips-ref o xs e _))
      (go w.saw)
    where
      go : (t : Bool) → max w.most (max (0 + clips_to_next xs) (greatest_run xs)) ≡ max w.most (max (cond t (w.clips + clips_to_next (o ∷ xs)) 0) (greatest_run (o ∷ xs)))
      go true = let c = next-ref o xs e in let g = run-ref o xs e in omega arith
      go false = let g = run-ref o xs e in omega arith

  -- neither a reference op nor a clip
  pub meets_other : ref_op o ≡ false → clip_len o ≡ 0 → met w xs ≡ met w (o ∷ xs)
  unfolding met
  meets_other e f =
      let r = sum-cons o xs ref_len in
      let l = len-other o xs e in
      let s : sum_of clip_len xs ≡ sum_of clip_len (o ∷ xs) = let t = sum-cons o xs clip_len in omega arith in
      let c : clips_to_next xs ≡ clips_to_next (o ∷ xs) = let t = next-other o xs e in omega arith in
      let g : greatest_run xs ≡ greatest_run (o ∷ xs) = let t = run-other o xs e in omega arith in
      met_eq (omega arith) (rw s (sym (clips-other o xs e _))) (rw (c, g))

  -- a clip before any reference op
  pub meets_early : ref_op o ≡ false → w.saw ≡ false → met w xs ≡ met w (o ∷ xs)
  unfolding met
  meets_early e f =
      let r = sum-cons o xs ref_len in
      let l = len-other o xs e in
      let g : greatest_run xs ≡ greatest_run (o ∷ xs) = let t = run-other o xs e in omega arith in
      met_eq (omega arith) (simp f (sym (clips-other o xs e _))) (simp (f, g))

  pub meets_clip : (n m : ℕ) → n ≡ clip_len o → ref_op o ≡ false → w.saw ≡ true → m ≡ max w.most (w.clips + n)
      → met (record { refs = w.refs; clips = w.clips + n; most = m; saw = true }) xs ≡ met w (o ∷ xs)
  unfolding met
  meets_clip n m f e s g =
      let r = sum-cons o xs ref_len in
      let l = len-other o xs e in
      let k : w.clips + n + sum_of clip_len xs ≡ w.clips + sum_of clip_len (o ∷ xs) = let t = sum-cons o xs clip_len in omega arith in
      let c = next-other o xs e in
      let u = run-other o xs e in
      met_eq (omega arith) (simp s (ap (cond (holds ref_op xs) (clips_after_reference xs)) k ∙ sym (clips-other o xs e _))) (simp s (omega arith))

-- ---- the walk's start and end

pub no_clips : (xs : List ℕ) → holds ref_op xs ≡ false → clips_after_reference xs ≡ 0
unfolding clips_after_reference sum_of
no_clips xs e = ap (sum_of clip_len) (after_none ref_op xs e)

abbrev pub fresh : Tail
fresh = record { refs = 0; clips = 0; most = 0; saw = false }

pub met_all : (xs : List ℕ) → met fresh xs ≡ record { refs = sum_of ref_len xs; clips = clips_after_reference xs; most = greatest_run xs }
unfolding met
met_all xs = met_eq (omega arith) (go (holds ref_op xs) refl) (omega arith)
  where
    go : (t : Bool) → holds ref_op xs ≡ t → cond t (clips_after_reference xs) 0 ≡ clips_after_reference xs
    go true e = refl
    go false e = sym (no_clips xs e)

pub met_none : (w : Tail) → w.clips ≤ w.most → met w [] ≡ record { refs = w.refs; clips = w.clips; most = w.most }
unfolding met holds sum_of clips_to_next leading greatest_run
met_none w h = go w.saw
  where
    go : (t : Bool) → ◌≡◌ {A = Met} (record { refs = w.refs + 0; clips = cond t (w.clips + 0) w.clips; most = max w.most (max (cond t (w.clips + 0) 0) 0) }) (record { refs = w.refs; clips = w.clips; most = w.most })
    go true = met_eq (omega arith) (omega arith) (omega arith)
    go false = met_eq (omega arith) refl (omega arith)
