-- 19: a taking goes through every op inside the two runs, which read nothing; so it falls short exactly where the amount is beyond what can be clipped.
use Prim.Native.Nat.{ℕ, ◌-◌, ◌≤◌, ◌<◌}
use mathlib.Core.Path.{◌≡◌, refl, ap, ◌∙◌}
use mathlib.Core.Bool.{Bool, true, false, not, ◌&&◌}
use mathlib.Core.List.{List}
use native.Mathlib.Omega.{arith}
use lib.ListN.{length, drop}
use lib.Dec.{eqb, leb, ltb}
use borrow.Author.Tests.{lt-ltb, le-ltb, leb-true, leb-false, eq-eqb, ne_eqb, eqb-true}
use Rattle.lists.specs.Lists.{facing, sum_of}
use Rattle.lists.proofs.Sums.{sum_facing}
use Rattle.sam.specs.Op.{code_of}
use Rattle.ops.specs.Ops.{read_len}
use Rattle.clip_run_rules.specs.Clips.{is_soft, is_hard, after_run, leading_clips, inside}
use Rattle.clip_run_rules.specs.InnerWalked.{OuterIs}
use Rattle.clip_run_rules.proofs.RunLaws.{run_sum, run_none}
use Rattle.clip_rules.specs.Clipping.{Taken, taking}
use Rattle.clip_rules.specs.InnerPlan.{TakingIs}
use Rattle.clip_rules.specs.Answer.{clippable, is_beyond}
use Rattle.clip_rules.proofs.CodeLaws.{read_S, read_H}
use Rattle.clip_rules.proofs.RuleLaws.{taking_reads, taking_enough}

-- R is of the ops inside
pub inside_reads : (xs : List ℕ) → sum_of read_len (inside xs) ≡ sum_of read_len xs
unfolding inside
inside_reads xs =
    let h = run_sum is_hard read_len xs in
    let s = run_sum is_soft read_len (after_run is_hard xs) in
    let p = run_none is_hard read_len (λ o e. read_H o (eqb-true (code_of o) 5 e)) xs in
    let q = run_none is_soft read_len (λ o e. read_S o (eqb-true (code_of o) 4 e)) (after_run is_hard xs) in
    omega arith

module _ (xs : List ℕ) (a : ℕ) (start : Bool) where
  -- "not for an empty list"
  pub not_of_none : length xs ≡ 0 → is_beyond xs a start ≡ false
  unfolding is_beyond
  not_of_none e = simp (eq-eqb (length xs) 0 e)

  pub some_beyond : (length xs ≡ 0 → ⊥) → is_beyond xs a start ≡ ltb (clippable xs start) a
  unfolding is_beyond
  some_beyond z = simp (ne_eqb (length xs) 0 z)

  pub not_within : a ≤ clippable xs start → is_beyond xs a start ≡ false
  unfolding is_beyond
  not_within h = simp (le-ltb (clippable xs start) a h) (go (eqb (length xs) 0))
    where
      go : (b : Bool) → (not b && false) ≡ false
      go true = refl
      go false = refl

  module _ {e : ℕ} (E : e ≡ leading_clips (facing start xs)) where
    pub not-in-clips : a ≤ e → is_beyond xs a start ≡ false
    unfolding clippable
    not-in-clips h = not_within (omega arith)

    module _ {h s next end bases lost cut rest : ℕ} (O : OuterIs (facing start xs) h s next) (k : e < a) (T : TakingIs (facing start xs) next (a - e) end bases lost cut rest) where
      bases_are : bases ≡ (taking (drop next (facing start xs)) (a - e)).bases
      bases_are = ap (λ (t : Taken). t.bases) T.taken_is

      reads_are : sum_of read_len (drop next (facing start xs)) ≡ sum_of read_len xs
      reads_are = ap (sum_of read_len) O.rest-is ∙ inside_reads (facing start xs) ∙ sum_facing read_len start xs

      pub short-beyond : (length xs ≡ 0 → ⊥) → bases < a - e → is_beyond xs a start ≡ true
      unfolding clippable
      short-beyond z t = some_beyond z ∙ lt-ltb (clippable xs start) a (go (leb (a - e) (sum_of read_len xs)) refl)
        where
          go : (b : Bool) → leb (a - e) (sum_of read_len xs) ≡ b → clippable xs start < a
          go true q =
              let p = bases_are in
              let r = reads_are in
              let l = leb-true (a - e) (sum_of read_len xs) q in
              let m = taking_enough (drop next (facing start xs)) (a - e) (omega arith) in
              absurd (omega arith)
          go false q = let l = leb-false (a - e) (sum_of read_len xs) q in omega arith

      pub enough-within : a - e ≤ bases → is_beyond xs a start ≡ false
      unfolding clippable
      enough-within t =
          let p = bases_are in
          let r = reads_are in
          let m = taking_reads (drop next (facing start xs)) (a - e) in
          not_within (omega arith)
