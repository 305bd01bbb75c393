-- Sums over runs and takings, what survives a taking, and the runs that a shaped list begins with, from either end.
use mathlib.Core.Path.{◌≡◌, refl, sym, ap, ◌∙◌}
use mathlib.Core.Bool.{Bool, true, false, cond}
use mathlib.Core.List.{List, [], ◌∷◌, ◌++◌, reverse, reverse-append, append_assoc}
use Prim.Native.Nat.{ℕ, suc, ◌+◌, ◌-◌, ◌≤◌, ◌<◌}
use native.Mathlib.Omega.{arith}
use lib.ListN.{length, length-reverse}
use lib.Dec.{eqb}
use borrow.Author.Tests.{eq-eqb, eqb-true}
use Rattle.lists.specs.Lists.{facing, sum_of}
use Rattle.lists.proofs.Absurd.{false_true}
use Rattle.lists.proofs.EachLaws.{each_append, each_reverse, each_map}
use Rattle.lists.proofs.Sums.{sum-cons, sum-append, sum_facing}
use Rattle.sam.specs.Op.{len_of, code_of, op_of}
use Rattle.ops.specs.Ops.{is_read, read_len, is_clip}
use Rattle.clip_run_rules.specs.Clips.{is_hard, is_soft, run_len, after_run, outer_hard, next_soft, inside, leading_clips}
use Rattle.clip_rules.specs.Clipping.{Taken, goes, taking, hard_of, soft_of}
use Rattle.clip_rules.proofs.CodeLaws.{read_le, read_H, read_all, read_is, cut_read, op_len, op_code}
use Rattle.clip_run_rules.proofs.RunLaws.{run_in, run_out, rest_in, rest_out, run_sum, run_same}
use Rattle.clip_rules.proofs.RuleLaws.{take-nil}
use Rattle.clip_laws.specs.Demand3.{is_inner, kept_len, All, Shaped, survives}
use Rattle.clip_laws.proofs.CodeLaws.{by_codes, never, read_I, hard_len, hard_code, soft_len, soft_code, kept_H, kept_S, kept_read}
use Rattle.clip_laws.proofs.TakeLaws.{Way, whole, none, over, cuts, way, take_whole, take_none, take_over, take-cut}

-- ---- the query and hard bases of the two runs

run_kept : (p : ℕ → Bool) → ((o : ℕ) → p (code_of o) ≡ true → kept_len o ≡ len_of o) → (xs : List ℕ) → sum_of kept_len xs ≡ run_len p xs + sum_of kept_len (after_run p xs)
run_kept p w xs = omega (arith, run_sum p kept_len xs, run_same p kept_len len_of w xs)

pub kept_split : (xs : List ℕ) → sum_of kept_len xs ≡ outer_hard xs + next_soft xs + sum_of kept_len (inside xs)
unfolding outer_hard next_soft inside
kept_split xs =
    let h = run_kept is_hard (λ o e. kept_H o (eqb-true (code_of o) 5 e)) xs in
    let s = run_kept is_soft (λ o e. kept_S o (eqb-true (code_of o) 4 e)) (after_run is_hard xs) in
    omega arith

-- ---- a taking of no more than the inner ops have

-- it takes no query or hard base that it does not count
abbrev Fair : List ℕ → Taken → Type 0
Fair l t = sum_of kept_len l ≡ t.bases + sum_of kept_len t.left

fair_none : (l : List ℕ) → Fair l (record { left = l; bases = 0; lost = 0 })
fair_none l = omega arith

goes_0 : (o : ℕ) → eqb (code_of o) 2 ≡ false → goes 0 o ≡ false
unfolding goes
goes_0 o e = e

clip_stays : (tail : List ℕ) → All is_clip tail → taking tail 0 ≡ record { left = tail; bases = 0; lost = 0 }
unfolding is_clip
clip_stays [] a = take-nil 0
clip_stays (o ∷ tail) a = take_none 0 o tail (goes_0 o (never is_clip (λ d. eqb d 2) refl o a.0)) refl

fair_nil : (tail : List ℕ) (n : ℕ) → All is_clip tail → n ≤ sum_of read_len [] → Fair tail (taking tail n)
unfolding sum_of
fair_nil tail n c h =
    let z : n ≡ 0 = omega arith in
    rw z (rw (clip_stays tail c) (fair_none tail))

fair_cons : (o : ℕ) (l : List ℕ) (n : ℕ) → is_inner (code_of o) ≡ true → Way n o → (goes n o ≡ true → Fair l (taking l (n - read_len o))) → Fair (o ∷ l) (taking (o ∷ l) n)
fair_cons o l n i (whole g) ih =
    let F = ih g in
    let a = sum-cons kept_len o l in
    let k = kept_read o i in
    rw (take_whole n o l g) (omega arith)
fair_cons o l n i (none g z) ih = rw (take_none n o l g z) (fair_none (o ∷ l))
fair_cons o l n i (over g z q s) ih =
    let a = sum-cons kept_len o l in
    let k = kept_read o i in
    let r = read_I o q in
    rw (take_over n o l g z q) (omega arith)
fair_cons o l n i (cuts g z q s) ih =
    let e = read_all n o s in
    let r = read_is o e in
    let k = kept_read o i in
    let m = len_of o - n in
    let k' = kept_read (op_of m (code_of o)) (ap is_inner (op_code m o) ∙ i) in
    let r' = cut_read m o e in
    let a = sum-cons kept_len o l in
    let a' = sum-cons kept_len (op_of m (code_of o)) l in
    rw (take-cut n o l g z q) (omega arith)

pub fair : (inner tail : List ℕ) (n : ℕ) → All is_inner inner → All is_clip tail → n ≤ sum_of read_len inner → sum_of kept_len (inner ++ tail) ≡ (taking (inner ++ tail) n).bases + sum_of kept_len (taking (inner ++ tail) n).left
fair [] tail n i c h = fair_nil tail n c h
fair (o ∷ inner) tail n i c h =
    let e = sum-cons read_len o inner in
    fair_cons o (inner ++ tail) n i.0 (way n o) (λ g. fair inner tail (n - read_len o) i.1 c (omega arith))

-- ---- what survives

-- a list that begins with an inner op
pub record Headed (l : List ℕ) : Type 0 where
  pub head : ℕ
  pub rest : List ℕ
  pub list_is : l ≡ head ∷ rest
  pub is-inner : is_inner (code_of head) ≡ true

none_survives : (l : List ℕ) → All is_clip l → survives l ≡ false
unfolding survives is_clip is_inner
none_survives [] c = refl
none_survives (o ∷ l) c = simp (never is_clip is_inner refl o c.0) (none_survives l c.1)

unread : (o : ℕ) → is_clip (code_of o) ≡ true → read_len o ≡ 0
unfolding is_clip is_read read_len
unread o e = simp (never is_clip is_read refl o e)

clips_unread : (l : List ℕ) → All is_clip l → sum_of read_len l ≡ 0
unfolding sum_of
clips_unread [] c = refl
clips_unread (o ∷ l) c = let e = unread o c.0 in let h = clips_unread l c.1 in omega arith

clips_go : (tail : List ℕ) (n : ℕ) → All is_clip tail → survives (taking tail n).left ≡ false
clips_go [] n c = rw (take-nil n) (none_survives [] c)
clips_go (o ∷ tail) n c = go (way n o) (clips_go tail (n - read_len o) c.1)
  where
    go : Way n o → survives (taking tail (n - read_len o)).left ≡ false → survives (taking (o ∷ tail) n).left ≡ false
    go (whole g) ih = rw (take_whole n o tail g) ih
    go (none g z) ih = rw (take_none n o tail g z) (none_survives (o ∷ tail) c)
    go (over g z q s) ih = let e = unread o c.0 in absurd (omega arith)
    go (cuts g z q s) ih = let e = unread o c.0 in absurd (omega arith)

all_headed : (inner tail : List ℕ) → All is_inner inner → All is_clip tail → survives (inner ++ tail) ≡ true → Headed (inner ++ tail)
all_headed [] tail i c s = false_true (sym (none_survives tail c) ∙ s)
all_headed (o ∷ inner) tail i c s = record { head = o; rest = inner ++ tail; list_is = refl; is-inner = i.0 }

pub left_headed : (inner tail : List ℕ) (n : ℕ) → All is_inner inner → All is_clip tail → survives (taking (inner ++ tail) n).left ≡ true → Headed (taking (inner ++ tail) n).left
left_headed [] tail n i c s = false_true (sym (clips_go tail n c) ∙ s)
left_headed (o ∷ inner) tail n i c s = go (way n o) s (left_headed inner tail (n - read_len o) i.1 c)
  where
    go : Way n o → survives (taking (o ∷ (inner ++ tail)) n).left ≡ true
        → (survives (taking (inner ++ tail) (n - read_len o)).left ≡ true → Headed (taking (inner ++ tail) (n - read_len o)).left)
        → Headed (taking (o ∷ (inner ++ tail)) n).left
    go (whole g) s' ih = rw (take_whole n o (inner ++ tail) g) (ih (rw (take_whole n o (inner ++ tail) g) at s'))
    go (none g z) s' ih = rw (take_none n o (inner ++ tail) g z) (record { head = o; rest = inner ++ tail; list_is = refl; is-inner = i.0 })
    go (over g z q r) s' ih = rw (take_over n o (inner ++ tail) g z q) (all_headed inner tail i.1 c (rw (take_over n o (inner ++ tail) g z q) at s'))
    go (cuts g z q r) s' ih =
        rw (take-cut n o (inner ++ tail) g z q)
        (record { head = op_of (len_of o - n) (code_of o); rest = inner ++ tail; list_is = refl; is-inner = ap is_inner (op_code (len_of o - n) o) ∙ i.0 })

-- ---- the runs that a list begins with

pub record Runs (xs : List ℕ) (h s : ℕ) (l : List ℕ) : Type 0 where
  pub some : length xs ≡ 0 → ⊥
  pub hard_is : outer_hard xs ≡ h
  pub soft_is : next_soft xs ≡ s
  pub clips_are : leading_clips xs ≡ h + s
  pub inside_is : inside xs ≡ l
  pub begins : Headed l

module _ (p : ℕ → Bool) (l : List ℕ) (H : Headed l) (out : p (code_of H.head) ≡ false) where
  headed_len : run_len p l ≡ 0
  headed_len = rw H.list_is (run_out p H.head H.rest len_of out)

  headed_rest : after_run p l ≡ l
  headed_rest = rw H.list_is (rest_out p H.head H.rest out)

-- ops of one kind in front of a run that holds them
module _ (p q : ℕ → Bool) (w : (o : ℕ) → p (code_of o) ≡ true → q (code_of o) ≡ true) where
  prefix_len : (hs l : List ℕ) → All p hs → run_len q (hs ++ l) ≡ sum_of len_of hs + run_len q l
  unfolding sum_of
  prefix_len [] l a = omega arith
  prefix_len (o ∷ hs) l a = let e = run_in q o (hs ++ l) len_of (w o a.0) in let ih = prefix_len hs l a.1 in omega arith

  prefix_rest : (hs l : List ℕ) → All p hs → after_run q (hs ++ l) ≡ after_run q l
  prefix_rest [] l a = refl
  prefix_rest (o ∷ hs) l a = rest_in q o (hs ++ l) (w o a.0) ∙ prefix_rest hs l a.1

-- an inner op is no clip
inner_hard : (o : ℕ) → is_inner (code_of o) ≡ true → is_hard (code_of o) ≡ false
unfolding is_inner
inner_hard = never is_inner is_hard refl

inner_soft : (o : ℕ) → is_inner (code_of o) ≡ true → is_soft (code_of o) ≡ false
unfolding is_inner
inner_soft = never is_inner is_soft refl

inner_clip : (o : ℕ) → is_inner (code_of o) ≡ true → is_clip (code_of o) ≡ false
unfolding is_inner is_clip
inner_clip = never is_inner is_clip refl

hard_clip : (o : ℕ) → is_hard (code_of o) ≡ true → is_clip (code_of o) ≡ true
unfolding is_clip
hard_clip = by_codes is_hard is_clip refl

soft_clip : (o : ℕ) → is_soft (code_of o) ≡ true → is_clip (code_of o) ≡ true
unfolding is_clip
soft_clip = by_codes is_soft is_clip refl

-- after the hard clips: no more of them
module _ (l : List ℕ) (H : Headed l) where
  no_hard : (softs : List ℕ) → All is_soft softs → run_len is_hard (softs ++ l) ≡ 0
  no_hard [] a = headed_len is_hard l H (inner_hard H.head H.is-inner)
  no_hard (o ∷ softs) a = run_out is_hard o (softs ++ l) len_of (never is_soft is_hard refl o a.0)

  all_left : (softs : List ℕ) → All is_soft softs → after_run is_hard (softs ++ l) ≡ softs ++ l
  all_left [] a = headed_rest is_hard l H (inner_hard H.head H.is-inner)
  all_left (o ∷ softs) a = rest_out is_hard o (softs ++ l) (never is_soft is_hard refl o a.0)

  headed_some : (hards softs : List ℕ) → length (hards ++ (softs ++ l)) ≡ 0 → ⊥
  headed_some [] [] e = let p = ap length H.list_is in omega arith
  headed_some [] (o ∷ softs) e = omega arith
  headed_some (o ∷ hards) softs e = omega arith

-- a list's runs, from its parts
runs : (hards softs l : List ℕ) → All is_hard hards → All is_soft softs → Headed l → Runs (hards ++ (softs ++ l)) (sum_of len_of hards) (sum_of len_of softs) l
unfolding outer_hard next_soft leading_clips inside
runs hards softs l a b H =
    let p = prefix_len is_hard is_hard (λ o e. e) hards (softs ++ l) a in
    let q = prefix_rest is_hard is_hard (λ o e. e) hards (softs ++ l) a ∙ all_left l H softs b in
    let r = no_hard l H softs b in
    let s = prefix_len is_soft is_soft (λ o e. e) softs l b in
    let t = headed_len is_soft l H (inner_soft H.head H.is-inner) in
    let u = prefix_len is_hard is_clip hard_clip hards (softs ++ l) a in
    let v = prefix_len is_soft is_clip soft_clip softs l b in
    let w = headed_len is_clip l H (inner_clip H.head H.is-inner) in
    record {
      some = headed_some l H hards softs;
      hard_is = omega arith;
      soft_is = ap (run_len is_soft) q ∙ (let z : run_len is_soft (softs ++ l) ≡ sum_of len_of softs = omega arith in z);
      clips_are = omega arith;
      inside_is = ap (after_run is_soft) q ∙ prefix_rest is_soft is_soft (λ o e. e) softs l b ∙ headed_rest is_soft l H (inner_soft H.head H.is-inner);
      begins = H;
    }

-- ---- the ops that a clip puts in front

soft_cases : (P : List ℕ → Type 0) (m : ℕ) → (m ≡ 0 → P []) → P (op_of m 4 ∷ []) → P (soft_of m)
unfolding soft_of
soft_cases P m z p = go (eqb m 0) refl
  where
    go : (b : Bool) → eqb m 0 ≡ b → P (cond b [] (op_of m 4 ∷ []))
    go true e = z (eqb-true m 0 e)
    go false e = p

sum_one : (f : ℕ → ℕ) (o : ℕ) → sum_of f (o ∷ []) ≡ f o
unfolding sum_of
sum_one f o = omega arith

nil_sum : (f : ℕ → ℕ) → sum_of f [] ≡ 0
unfolding sum_of
nil_sum f = refl

pub soft_total : (m : ℕ) → sum_of len_of (soft_of m) ≡ m
soft_total m =
    soft_cases (λ l. sum_of len_of l ≡ m) m (λ z. nil_sum len_of ∙ sym z) (sum_one len_of (op_of m 4) ∙ soft_len m)

-- the runs of a clipped list
pub runs_clipped : (k m : ℕ) (l : List ℕ) → Headed l → Runs (hard_of k ∷ (soft_of m ++ l)) k m l
runs_clipped k m l H =
    let s : All is_soft (soft_of m) = soft_cases (All is_soft) m (λ z. tt) (eq-eqb (code_of (op_of m 4)) 4 (soft_code m), tt) in
    rw (sum_one len_of (hard_of k), hard_len k, soft_total m) at (runs (hard_of k ∷ []) (soft_of m) l (eq-eqb (code_of (hard_of k)) 5 (hard_code k), tt) s H)

pub hard_head : (k : ℕ) (l : List ℕ) → outer_hard (hard_of k ∷ l) ≡ k + outer_hard l
unfolding outer_hard
hard_head k l = run_in is_hard (hard_of k) l len_of (eq-eqb (code_of (hard_of k)) 5 (hard_code k)) ∙ ap (λ n. n + run_len is_hard l) (hard_len k)

pub clips_head : (k : ℕ) (l : List ℕ) → leading_clips (hard_of k ∷ l) ≡ k + leading_clips l
unfolding leading_clips
clips_head k l = run_in is_clip (hard_of k) l len_of (hard_clip (hard_of k) (eq-eqb (code_of (hard_of k)) 5 (hard_code k))) ∙ ap (λ n. n + run_len is_clip l) (hard_len k)

pub reads_head : (k : ℕ) (l : List ℕ) → sum_of read_len (hard_of k ∷ l) ≡ sum_of read_len l
reads_head k l = let e = sum-cons read_len (hard_of k) l in let f = read_H (hard_of k) (hard_code k) in omega arith

pub kept_hard : (k : ℕ) (l : List ℕ) → sum_of kept_len (hard_of k ∷ l) ≡ k + sum_of kept_len l
kept_hard k l =
    let e = sum-cons kept_len (hard_of k) l in let f = kept_H (hard_of k) (hard_code k) in let n = hard_len k in omega arith

pub kept_soft : (m : ℕ) (l : List ℕ) → sum_of kept_len (soft_of m ++ l) ≡ m + sum_of kept_len l
kept_soft m l =
    soft_cases (λ (p : List ℕ). sum_of kept_len (p ++ l) ≡ m + sum_of kept_len l) m (λ z. omega arith)
    (let e = sum-cons kept_len (op_of m 4) l in let f = kept_S (op_of m 4) (soft_code m) in let n = soft_len m in omega arith)

pub soft_length : (m : ℕ) (l : List ℕ) → length (soft_of m ++ l) ≤ 1 + length l
soft_length m l = soft_cases (λ (p : List ℕ). length (p ++ l) ≤ 1 + length l) m (λ z. omega arith) (omega arith)

-- ---- lengths of what is left

pub left_length : (l : List ℕ) (n : ℕ) → length (taking l n).left ≤ length l
left_length [] n = rw (take-nil n) (omega arith)
left_length (o ∷ l) n = go (way n o) (left_length l (n - read_len o))
  where
    go : Way n o → length (taking l (n - read_len o)).left ≤ length l → length (taking (o ∷ l) n).left ≤ suc (length l)
    go (whole g) ih = rw (take_whole n o l g) (omega arith)
    go (none g z) ih = rw (take_none n o l g z) (omega arith)
    go (over g z q s) ih = rw (take_over n o l g z q) (omega arith)
    go (cuts g z q s) ih = rw (take-cut n o l g z q) (omega arith)

pub left_total : (l : List ℕ) (n : ℕ) → (taking l n).bases + sum_of len_of (taking l n).left ≤ sum_of len_of l
left_total [] n = rw (take-nil n) (omega arith)
left_total (o ∷ l) n = rw (sum-cons len_of o l) (go (way n o) (left_total l (n - read_len o)))
  where
    go : Way n o → (taking l (n - read_len o)).bases + sum_of len_of (taking l (n - read_len o)).left ≤ sum_of len_of l
        → (taking (o ∷ l) n).bases + sum_of len_of (taking (o ∷ l) n).left ≤ len_of o + sum_of len_of l
    go (whole g) ih = let r = read_le o in rw (take_whole n o l g) (omega arith)
    go (none g z) ih = let e = sum-cons len_of o l in rw (take_none n o l g z) (omega arith)
    go (over g z q s) ih = rw (take_over n o l g z q) (omega arith)
    go (cuts g z q s) ih =
        let e = sum-cons len_of (op_of (len_of o - n) (code_of o)) l in
        let r = read_le o in
        let m = op_len (len_of o - n) o in
        rw (take-cut n o l g z q) (omega arith)

-- ---- a shaped list, from either end

reverse_parts : (a b c d e : List ℕ) → reverse (a ++ (b ++ (c ++ (d ++ e)))) ≡ reverse e ++ (reverse d ++ (reverse c ++ (reverse b ++ reverse a)))
reverse_parts a b c d e =
    reverse-append a (b ++ (c ++ (d ++ e)))
    ∙ ap (λ (l : List ℕ). l ++ reverse a) (reverse-append b (c ++ (d ++ e)) ∙ ap (λ (l : List ℕ). l ++ reverse b) (reverse-append c (d ++ e) ∙ ap (λ (l : List ℕ). l ++ reverse c) (reverse-append d e)))
    ∙ simp append_assoc

pub shaped_facing : (b : Bool) (xs : List ℕ) → Shaped xs → Shaped (facing b xs)
shaped_facing true xs S = S
shaped_facing false xs S =
    record {
      hards = reverse S.hards';
      softs = reverse S.softs';
      inner = reverse S.inner;
      softs' = reverse S.softs;
      hards' = reverse S.hards;
      list_is = ap reverse S.list_is ∙ reverse_parts S.hards S.softs S.inner S.softs' S.hards';
      hards_are = each_reverse _ S.hards' S.hards'_are;
      softs_are = each_reverse _ S.softs' S.softs'_are;
      inner_are = each_reverse _ S.inner S.inner_are;
      inner_some = rw (length-reverse S.inner) S.inner_some;
      softs'_are = each_reverse _ S.softs S.softs_are;
      hards'_are = each_reverse _ S.hards S.hards_are;
    }

inner_headed : (inner tail : List ℕ) → All is_inner inner → 0 < length inner → Headed (inner ++ tail)
inner_headed [] tail a h = absurd (omega arith)
inner_headed (o ∷ inner) tail a h = record { head = o; rest = inner ++ tail; list_is = refl; is-inner = a.0 }

module _ {xs : List ℕ} (S : Shaped xs) where
  pub tail_clips : All is_clip (S.softs' ++ S.hards')
  tail_clips = each_append _ S.softs' S.hards' (each_map _ _ soft_clip S.softs' S.softs'_are) (each_map _ _ hard_clip S.hards' S.hards'_are)

  pub shaped_runs : Runs xs (sum_of len_of S.hards) (sum_of len_of S.softs) (S.inner ++ (S.softs' ++ S.hards'))
  shaped_runs =
      rw S.list_is
      (runs S.hards S.softs (S.inner ++ (S.softs' ++ S.hards')) S.hards_are S.softs_are (inner_headed S.inner (S.softs' ++ S.hards') S.inner_are S.inner_some))

  -- the clips read nothing
  pub shaped_reads : sum_of read_len xs ≡ sum_of read_len S.inner
  shaped_reads =
      let e = ap (sum_of read_len) S.list_is in
      let p = sum-append read_len S.hards (S.softs ++ (S.inner ++ (S.softs' ++ S.hards'))) in
      let q = sum-append read_len S.softs (S.inner ++ (S.softs' ++ S.hards')) in
      let r = sum-append read_len S.inner (S.softs' ++ S.hards') in
      let h = clips_unread S.hards (each_map _ _ hard_clip S.hards S.hards_are) in
      let s = clips_unread S.softs (each_map _ _ soft_clip S.softs S.softs_are) in
      let t = clips_unread (S.softs' ++ S.hards') tail_clips in
      omega arith

pub shaped_inner : (b : Bool) (xs : List ℕ) (S : Shaped xs) → sum_of read_len (shaped_facing b xs S).inner ≡ sum_of read_len S.inner
unfolding shaped_facing
shaped_inner true xs S = refl
shaped_inner false xs S = sum_facing read_len false S.inner
