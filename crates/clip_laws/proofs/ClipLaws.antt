-- Demand 3 on a list seen from the chosen end: the hard clip floor, what is conserved, and clipping twice, by the runs that the list begins with.
use mathlib.Core.Path.{◌≡◌, refl, sym, ap, ◌∙◌}
use mathlib.Core.Bool.{Bool, true, false}
use mathlib.Core.List.{List, [], ◌∷◌, ◌++◌}
use Prim.Native.Nat.{ℕ, ◌+◌, ◌-◌, ◌≤◌, ◌<◌, min}
use native.Mathlib.Omega.{arith}
use lib.ListN.{length}
use lib.Dec.{eqb, leb}
use borrow.Author.Tests.{le-leb, lt-leb, leb-true, leb-false, ne_eqb, eqb-true, eqb-false}
use Rattle.lists.specs.Lists.{sum_of}
use Rattle.lists.proofs.Sums.{sum-cons, sum-append}
use Rattle.sam.specs.Op.{len_of, code_of}
use Rattle.ops.specs.Ops.{read_len, is_clip}
use Rattle.clip_run_rules.specs.Clips.{outer_hard}
use Rattle.clip_rules.specs.Clipping.{Taken, more, taking, Cut, hard_of, soft_of, upgraded, cut_into, clip}
use Rattle.clip_rules.specs.Answer.{clippable}
use Rattle.clip_rules.proofs.RuleLaws.{cut_eq, take-nil, goes_enough, taking_reads, taking_enough, clip_none}
use Rattle.clip_rules.proofs.BeyondLaws.{inside_reads}
use Rattle.clip_laws.specs.Demand3.{kept_len, All, is_inner, EndsInsertion}
use Rattle.clip_laws.proofs.TakeLaws.{Way, whole, none, over, cuts, way, take_whole, take_none, take_over, take-cut, two_goes, same_take}
use Rattle.clip_laws.proofs.ShapeLaws.{Headed, Runs, fair, runs_clipped, kept_split, hard_head, clips_head, reads_head, kept_hard, kept_soft}

-- ---- the rule, by the runs

module _ {xs : List ℕ} {h s : ℕ} {l : List ℕ} (R : Runs xs h s l) where
  pub on_none : (a : ℕ) → a ≡ 0 → clip xs a ≡ record { ops = xs; lost = 0 }
  on_none a z = sym (clip_none xs a z)

  pub on_upgrade : (a : ℕ) → (a ≡ 0 → ⊥) → a ≤ h + s → clip xs a ≡ upgraded h s a l
  unfolding clip
  on_upgrade a z k = simp (ne_eqb a 0 z, ne_eqb (length xs) 0 R.some, R.clips_are, le-leb a (h + s) k, R.hard_is, R.soft_is, R.inside_is)

  pub on_cut : (a : ℕ) → h + s < a → clip xs a ≡ cut_into h s (taking l (a - (h + s)))
  unfolding clip
  on_cut a k = simp (ne_eqb a 0 (omega arith), ne_eqb (length xs) 0 R.some, R.clips_are, lt-leb a (h + s) k, R.hard_is, R.soft_is, R.inside_is)

-- ---- an insertion that an amount falls inside is taken whole

pub record Over (l : List ℕ) (n : ℕ) : Type 0 where
  pub before : List ℕ
  pub insertion : ℕ
  pub after : List ℕ
  pub list_is : l ≡ before ++ (insertion ∷ after)
  pub is_insertion : code_of insertion ≡ 1
  pub past : sum_of read_len before < n
  pub bases_are : (taking l n).bases ≡ sum_of read_len before + len_of insertion

pub over_shoots : (l : List ℕ) (n : ℕ) → n < (taking l n).bases → Over l n
unfolding sum_of
over_shoots [] n h = let e = ap (λ (t : Taken). t.bases) (take-nil n) in absurd (omega arith)
over_shoots (o ∷ l) n h = go (way n o) (over_shoots l (n - read_len o))
  where
    nil : sum_of read_len [] ≡ 0
    nil = refl

    go : Way n o → (n - read_len o < (taking l (n - read_len o)).bases → Over l (n - read_len o)) → Over (o ∷ l) n
    go (whole g) ih =
        let e = ap (λ (t : Taken). t.bases) (take_whole n o l g) in
        let r = goes_enough n o g in
        let I = ih (omega arith) in
        let c = sum-cons read_len o I.before in
        record {
          before = o ∷ I.before;
          insertion = I.insertion;
          after = I.after;
          list_is = ap (λ (m : List ℕ). o ∷ m) I.list_is;
          is_insertion = I.is_insertion;
          past = omega arith;
          bases_are = omega arith;
        }
    go (none g z) ih = let e = ap (λ (t : Taken). t.bases) (take_none n o l g z) in absurd (omega arith)
    go (over g z q s) ih =
        let e = ap (λ (t : Taken). t.bases) (take_over n o l g z q) in
        let c = nil in
        record { before = []; insertion = o; after = l; list_is = refl; is_insertion = q; past = omega arith; bases_are = omega arith }
    go (cuts g z q s) ih = let e = ap (λ (t : Taken). t.bases) (take-cut n o l g z q) in absurd (omega arith)

-- ---- twice

-- an amount within the clips turns as many soft bases as it asks for
pub upgraded_is : (h s a : ℕ) (l : List ℕ) → a ≤ h + s → upgraded h s a l ≡ record { ops = hard_of (h + (a - h)) ∷ (soft_of (s - (a - h)) ++ l); lost = 0 }
unfolding upgraded
upgraded_is h s a l k = let e : min s (a - h) ≡ a - h = omega arith in simp e

module _ {xs : List ℕ} {h s : ℕ} {l : List ℕ} (R : Runs xs h s l) where
  pub on_soft : (a : ℕ) → (a ≡ 0 → ⊥) → a ≤ h + s → clip xs a ≡ record { ops = hard_of (h + (a - h)) ∷ (soft_of (s - (a - h)) ++ l); lost = 0 }
  on_soft a z k = on_upgrade R a z k ∙ upgraded_is h s a l k

  pub on_inner : (a : ℕ) → h + s < a → clip xs a ≡ record { ops = hard_of (h + s + (taking l (a - (h + s))).bases) ∷ (taking l (a - (h + s))).left; lost = (taking l (a - (h + s))).lost }
  unfolding cut_into
  on_inner a k = on_cut R a k

soft_hard : (h a b : ℕ) → a ≤ b → h + (a - h) + (b - (h + (a - h))) ≡ h + (b - h)
soft_hard h a b k = omega arith

soft_left : (h s a b : ℕ) → a ≤ b → s - (a - h) - (b - (h + (a - h))) ≡ s - (b - h)
soft_left h s a b k = omega arith

soft_sum : (h s a : ℕ) → a ≤ h + s → h + (a - h) + (s - (a - h)) ≡ h + s
soft_sum h s a k = omega arith

soft_empty : soft_of 0 ≡ []
unfolding soft_of
soft_empty = refl

-- a list that begins with a hard clip of k and then an inner op
hard_runs : (k : ℕ) (l : List ℕ) → Headed l → Runs (hard_of k ∷ l) k 0 l
hard_runs k l H = rw soft_empty at (runs_clipped k 0 l H)

-- an amount within that hard clip changes nothing
hard_stays : (k : ℕ) (l : List ℕ) (b : ℕ) → Headed l → b ≤ k → clip (hard_of k ∷ l) b ≡ record { ops = hard_of k ∷ l; lost = 0 }
hard_stays k l b H h = go (eqb b 0) refl
  where
    go : (t : Bool) → eqb b 0 ≡ t → clip (hard_of k ∷ l) b ≡ record { ops = hard_of k ∷ l; lost = 0 }
    go true e = on_none (hard_runs k l H) b (eqb-true b 0 e)
    go false e =
        let p : k + (b - k) ≡ k = omega arith in
        let q : 0 - (b - k) ≡ 0 = omega arith in
        on_soft (hard_runs k l H) b (eqb-false b 0 e) (omega arith)
        ∙ cut_eq (ap (λ (n : ℕ). hard_of n ∷ (soft_of (0 - (b - k)) ++ l)) p ∙ ap (λ (n : ℕ). hard_of k ∷ (soft_of n ++ l)) q ∙ ap (λ (m : List ℕ). hard_of k ∷ (m ++ l)) soft_empty) refl

join : (k b f : ℕ) (t u : Taken) → t ≡ more b f u
    → ◌≡◌ {A = Cut} (record { ops = hard_of (k + t.bases) ∷ t.left; lost = t.lost }) (record { ops = hard_of (k + b + 0 + u.bases) ∷ u.left; lost = f + u.lost })
join k b f t u e =
    let p : k + (b + u.bases) ≡ k + b + 0 + u.bases = omega arith in
    cut_eq (ap (λ (v : Taken). hard_of (k + v.bases) ∷ v.left) e ∙ ap (λ (n : ℕ). hard_of n ∷ u.left) p) (ap (λ (v : Taken). v.lost) e)

module _ {xs : List ℕ} {h s : ℕ} {l : List ℕ} (R : Runs xs h s l) (a b : ℕ) (le : a ≤ b) where
  abbrev Twice : Type 0
  Twice = clip xs b ≡ record { ops = (clip (clip xs a).ops b).ops; lost = (clip xs a).lost + (clip (clip xs a).ops b).lost }

  twice_none : a ≡ 0 → Twice
  twice_none z = rw (on_none R a z) (cut_eq refl (omega arith))

  soft_soft : (a ≡ 0 → ⊥) → a ≤ h + s → b ≤ h + s → Twice
  soft_soft z k m =
      let R' : Runs (hard_of (h + (a - h)) ∷ (soft_of (s - (a - h)) ++ l)) (h + (a - h)) (s - (a - h)) l = runs_clipped (h + (a - h)) (s - (a - h)) l R.begins in
      let e = soft_sum h s a k in
      rw (on_soft R a z k)
      (rw (on_soft R' b (omega arith) (omega arith))
      (on_soft R b (omega arith) m
      ∙ cut_eq (ap (λ (n : ℕ). hard_of n ∷ (soft_of (s - (b - h)) ++ l)) (sym (soft_hard h a b le))
      ∙ ap (λ (n : ℕ). hard_of (h + (a - h) + (b - (h + (a - h)))) ∷ (soft_of n ++ l)) (sym (soft_left h s a b le))) refl))

  soft_inner : (a ≡ 0 → ⊥) → a ≤ h + s → h + s < b → Twice
  soft_inner z k m =
      let R' : Runs (hard_of (h + (a - h)) ∷ (soft_of (s - (a - h)) ++ l)) (h + (a - h)) (s - (a - h)) l = runs_clipped (h + (a - h)) (s - (a - h)) l R.begins in
      let e = soft_sum h s a k in
      rw (on_soft R a z k)
      (rw (on_inner R' b (omega arith))
      (on_inner R b m
      ∙ rw e (cut_eq refl (omega arith))))

  -- b within what a took
  inner_same : h + s < a → Headed (taking l (a - (h + s))).left → b ≤ h + s + (taking l (a - (h + s))).bases
      → taking l (b - (h + s)) ≡ taking l (a - (h + s)) → Twice
  inner_same k H m e =
      rw (on_inner R a k)
      (rw (hard_stays (h + s + (taking l (a - (h + s))).bases) (taking l (a - (h + s))).left b H m)
      (on_inner R b (omega arith)
      ∙ rw e (cut_eq refl (omega arith))))

  -- b beyond what a took
  inner_more : h + s < a → Headed (taking l (a - (h + s))).left → h + s + (taking l (a - (h + s))).bases < b → Twice
  inner_more k H m =
      let t = taking l (a - (h + s)) in
      let w = b - (h + s + t.bases) in
      let g = two_goes l (a - (h + s)) w (omega arith) in
      let e : b - (h + s) ≡ t.bases + w = omega arith in
      let v : b - (h + s + t.bases + 0) ≡ w = omega arith in
      let x : h + s + t.bases + 0 ≡ h + s + t.bases = omega arith in
      rw (on_inner R a k)
      (rw (on_inner (hard_runs (h + s + t.bases) t.left H) b (omega arith))
      (on_inner R b (omega arith)
      ∙ join (h + s) t.bases t.lost (taking l (b - (h + s))) (taking t.left (b - (h + s + t.bases + 0)))
      (ap (taking l) e ∙ g ∙ ap (λ (n : ℕ). more t.bases t.lost (taking t.left n)) (sym v))))

  -- where a fell inside an insertion, all of which it took, b is not its end
  inside_same : h + s < a → b ≤ h + s + (taking l (a - (h + s))).bases → (EndsInsertion xs a b → ⊥) → taking l (b - (h + s)) ≡ taking l (a - (h + s))
  inside_same k m E = go (leb (taking l (a - (h + s))).bases (b - (h + s))) refl (leb (taking l (a - (h + s))).bases (a - (h + s))) refl
    where
      go : (p : Bool) → leb (taking l (a - (h + s))).bases (b - (h + s)) ≡ p → (q : Bool) → leb (taking l (a - (h + s))).bases (a - (h + s)) ≡ q → taking l (b - (h + s)) ≡ taking l (a - (h + s))
      go false e q f =
          let x = leb-false (taking l (a - (h + s))).bases (b - (h + s)) e in
          same_take l (a - (h + s)) (b - (h + s)) (omega arith) x
      go true e true f =
          let x = leb-true (taking l (a - (h + s))).bases (b - (h + s)) e in
          let y = leb-true (taking l (a - (h + s))).bases (a - (h + s)) f in
          let z : b - (h + s) ≡ a - (h + s) = omega arith in
          ap (taking l) z
      go true e false f =
          let x = leb-true (taking l (a - (h + s))).bases (b - (h + s)) e in
          let y = leb-false (taking l (a - (h + s))).bases (a - (h + s)) f in
          let O = over_shoots l (a - (h + s)) y in
          let c = R.clips_are in
          absurd (E (record {
            before = O.before;
            insertion = O.insertion;
            after = O.after;
            list_is = R.inside_is ∙ O.list_is;
            is_insertion = O.is_insertion;
            a_past = omega arith;
            a_within = omega arith;
            b_end = omega arith;
          }))

  pub twice : (h + s < a → Headed (taking l (a - (h + s))).left) → (EndsInsertion xs a b → ⊥)
      → clip xs b ≡ record { ops = (clip (clip xs a).ops b).ops; lost = (clip xs a).lost + (clip (clip xs a).ops b).lost }
  twice H E = go (eqb a 0) refl (leb a (h + s)) refl (leb b (h + s)) refl (leb b (h + s + (taking l (a - (h + s))).bases)) refl
    where
      go : (z : Bool) → eqb a 0 ≡ z → (p : Bool) → leb a (h + s) ≡ p → (q : Bool) → leb b (h + s) ≡ q → (r : Bool) → leb b (h + s + (taking l (a - (h + s))).bases) ≡ r → Twice
      go true e p f q g r i = twice_none (eqb-true a 0 e)
      go false e true f true g r i = soft_soft (eqb-false a 0 e) (leb-true a (h + s) f) (leb-true b (h + s) g)
      go false e true f false g r i = soft_inner (eqb-false a 0 e) (leb-true a (h + s) f) (leb-false b (h + s) g)
      go false e false f q g true i =
          let k = leb-false a (h + s) f in
          let m = leb-true b (h + s + (taking l (a - (h + s))).bases) i in
          inner_same k (H k) m (inside_same k m E)
      go false e false f q g false i =
          let k = leb-false a (h + s) f in
          inner_more k (H k) (leb-false b (h + s + (taking l (a - (h + s))).bases) i)

-- ---- what can be clipped afterwards

reads_are : {xs : List ℕ} {h s : ℕ} {l : List ℕ} → Runs xs h s l → sum_of read_len xs ≡ sum_of read_len l
reads_are {xs} R = sym (inside_reads xs) ∙ ap (sum_of read_len) R.inside_is

module _ {xs : List ℕ} {h s : ℕ} {l : List ℕ} (R : Runs xs h s l) where
  still_soft : (a : ℕ) → (a ≡ 0 → ⊥) → a ≤ h + s → clippable xs true ≤ clippable (clip xs a).ops true
  unfolding clippable
  still_soft a z k =
      let R' = runs_clipped (h + (a - h)) (s - (a - h)) l R.begins in
      let e = reads_are R in
      let f = reads_are R' in
      let p = R.clips_are in
      let q = R'.clips_are in
      rw (on_soft R a z k) (omega arith)

  still_inner : (a : ℕ) → h + s < a → clippable xs true ≤ clippable (clip xs a).ops true
  unfolding clippable
  still_inner a k =
      let t = taking l (a - (h + s)) in
      let e = reads_are R in
      let p = R.clips_are in
      let q = clips_head (h + s + t.bases) t.left in
      let r = reads_head (h + s + t.bases) t.left in
      let w = taking_reads l (a - (h + s)) in
      rw (on_inner R a k) (omega arith)

  -- no less: a clip puts as many clips in place as it takes clips and read bases
  pub still_clippable : (a : ℕ) → clippable xs true ≤ clippable (clip xs a).ops true
  still_clippable a = go (eqb a 0) refl (leb a (h + s)) refl
    where
      go : (z : Bool) → eqb a 0 ≡ z → (p : Bool) → leb a (h + s) ≡ p → clippable xs true ≤ clippable (clip xs a).ops true
      go true e p f = rw (on_none R a (eqb-true a 0 e)) (omega arith)
      go false e true f = still_soft a (eqb-false a 0 e) (leb-true a (h + s) f)
      go false e false f = still_inner a (leb-false a (h + s) f)

-- ---- once

-- what one clip does: enough is hard clipped, and the query and hard bases are kept
pub record Once (xs : List ℕ) (a : ℕ) : Type 0 where
  pub floor : a ≤ outer_hard (clip xs a).ops
  pub kept : sum_of kept_len (clip xs a).ops ≡ sum_of kept_len xs

module _ {xs : List ℕ} (inner tail : List ℕ) {h s : ℕ} (R : Runs xs h s (inner ++ tail)) (I : All is_inner inner) (T : All is_clip tail) (a : ℕ) (le : a ≤ h + s + sum_of read_len inner) where
  kept_parts : sum_of kept_len xs ≡ h + s + sum_of kept_len (inner ++ tail)
  kept_parts = let k = kept_split xs in let p = R.hard_is in let q = R.soft_is in let r = ap (sum_of kept_len) R.inside_is in omega arith

  once_soft : (a ≡ 0 → ⊥) → a ≤ h + s → Once xs a
  once_soft z k =
      let l = inner ++ tail in
      let p = hard_head (h + (a - h)) (soft_of (s - (a - h)) ++ l) in
      let q = kept_hard (h + (a - h)) (soft_of (s - (a - h)) ++ l) in
      let r = kept_soft (s - (a - h)) l in
      let v = kept_parts in
      record {
        floor = rw (on_soft R a z k) (omega arith);
        kept = rw (on_soft R a z k) (omega arith);
      }

  once_inner : h + s < a → Once xs a
  once_inner k =
      let l = inner ++ tail in
      let t = taking l (a - (h + s)) in
      let f = fair inner tail (a - (h + s)) I T (omega arith) in
      let e = sum-append read_len inner tail in
      let g = taking_enough l (a - (h + s)) (omega arith) in
      let p = hard_head (h + s + t.bases) t.left in
      let q = kept_hard (h + s + t.bases) t.left in
      let v = kept_parts in
      record {
        floor = rw (on_inner R a k) (omega arith);
        kept = rw (on_inner R a k) (omega arith);
      }

  pub once : Once xs a
  once = go (eqb a 0) refl (leb a (h + s)) refl
    where
      go : (z : Bool) → eqb a 0 ≡ z → (p : Bool) → leb a (h + s) ≡ p → Once xs a
      go true e p f =
          let z = eqb-true a 0 e in
          record { floor = omega arith; kept = rw (on_none R a z) refl }
      go false e true f = once_soft (eqb-false a 0 e) (leb-true a (h + s) f)
      go false e false f = once_inner (leb-false a (h + s) f)
