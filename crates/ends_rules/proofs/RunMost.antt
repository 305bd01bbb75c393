-- The greatest run is the most that the Rust's one sum of clips comes to: after i ops it holds the clips after the last reference op of those i.
use Prim.Native.Nat.{ℕ, zero, suc, ◌≤◌}
use mathlib.Core.Path.{◌≡◌, refl, sym, ap, ◌∙◌}
use mathlib.Core.Bool.{Bool, true, false, not, cond}
use mathlib.Core.List.{List, [], ◌∷◌}
use native.Mathlib.Omega.{arith}
use lib.Dec.{leb}
use lib.ListN.{length, take}
use borrow.Author.Tests.{leb-true, leb-false}
use Rattle.lists.specs.Lists.{sum_of}
use Rattle.lists.specs.Runs.{leading, holds, after_last}
use Rattle.lists.proofs.Absurd.{false_true}
use Rattle.lists.proofs.RunLaws.{after_none}
use Rattle.clip_run_rules.specs.Clips.{clip_len, clips_after_reference}
use Rattle.ends_rules.specs.Tails.{ref_op, clips_to_next, greatest_run, Reached}
use Rattle.ends_rules.proofs.TailLaws.{sum_pick, no_clips, next-ref, run-ref, next-other, run-other}

abbrev between : List ℕ → List ℕ
between xs = leading (λ o. not (ref_op o)) xs

no_ref : (xs : List ℕ) → holds ref_op (between xs) ≡ false
unfolding holds leading
no_ref [] = refl
no_ref (o ∷ xs) = go (ref_op o) refl (no_ref xs)
  where
    go : (t : Bool) → ref_op o ≡ t → holds ref_op (between xs) ≡ false → holds ref_op (cond (not t) (o ∷ between xs) []) ≡ false
    go true e h = refl
    go false e h = simp e h

take_between : (xs : List ℕ) → take (length (between xs)) xs ≡ between xs
unfolding leading
take_between [] = refl
take_between (o ∷ xs) = go (ref_op o) (take_between xs)
  where
    go : (t : Bool) → take (length (between xs)) xs ≡ between xs → take (length (cond (not t) (o ∷ between xs) [])) (o ∷ xs) ≡ cond (not t) (o ∷ between xs) []
    go true h = refl
    go false h = ap (λ (l : List ℕ). o ∷ l) h

all_between : (xs : List ℕ) → holds ref_op xs ≡ false → between xs ≡ xs
unfolding holds leading
all_between [] e = refl
all_between (o ∷ xs) e = go (ref_op o) (all_between xs) e
  where
    go : (t : Bool) → (holds ref_op xs ≡ false → between xs ≡ xs) → cond t true (holds ref_op xs) ≡ false → cond (not t) (o ∷ between xs) [] ≡ o ∷ xs
    go true f h = false_true (sym h)
    go false f h = ap (λ (l : List ℕ). o ∷ l) (f h)

-- ---- the clips after the last reference op, one op on

module _ (o : ℕ) (xs : List ℕ) where
  trail_ref : ref_op o ≡ true → (t : Bool) → holds ref_op xs ≡ t → clips_after_reference (o ∷ xs) ≡ cond t (clips_after_reference xs) (sum_of clip_len xs)
  unfolding after_last clips_after_reference
  trail_ref e t q = simp (e, q) (sum_pick clip_len t (after_last ref_op xs) xs)

  trail_other : ref_op o ≡ false → clips_after_reference (o ∷ xs) ≡ clips_after_reference xs
  unfolding after_last clips_after_reference sum_of
  trail_other e = simp e (go (holds ref_op xs) refl)
    where
      go : (t : Bool) → holds ref_op xs ≡ t → sum_of clip_len (cond t (after_last ref_op xs) []) ≡ sum_of clip_len (after_last ref_op xs)
      go true h = refl
      go false h = sym (ap (sum_of clip_len) (after_none ref_op xs h))

-- ---- never more

next_part : (xs : List ℕ) (i : ℕ) → clips_to_next (take i xs) ≤ clips_to_next xs
unfolding clips_to_next leading sum_of
next_part [] zero = omega arith
next_part [] (suc i) = omega arith
next_part (o ∷ xs) zero = omega arith
next_part (o ∷ xs) (suc i) = go (ref_op o) refl (next_part xs i)
  where
    go : (t : Bool) → ref_op o ≡ t → clips_to_next (take i xs) ≤ clips_to_next xs → clips_to_next (o ∷ take i xs) ≤ clips_to_next (o ∷ xs)
    go true e h = omega (arith, next-ref o (take i xs) e)
    go false e h = omega (arith, next-other o (take i xs) e, next-other o xs e)

run_part : (xs : List ℕ) (i : ℕ) → greatest_run (take i xs) ≤ greatest_run xs
unfolding greatest_run
run_part [] zero = omega arith
run_part [] (suc i) = omega arith
run_part (o ∷ xs) zero = omega arith
run_part (o ∷ xs) (suc i) = go (ref_op o) refl (run_part xs i)
  where
    go : (t : Bool) → ref_op o ≡ t → greatest_run (take i xs) ≤ greatest_run xs → greatest_run (o ∷ take i xs) ≤ greatest_run (o ∷ xs)
    go true e h = omega (arith, run-ref o (take i xs) e, run-ref o xs e, next_part xs i)
    go false e h = omega (arith, run-other o (take i xs) e, run-other o xs e)

next_all : (xs : List ℕ) → holds ref_op xs ≡ false → clips_to_next xs ≡ sum_of clip_len xs
unfolding clips_to_next
next_all xs e = ap (sum_of clip_len) (all_between xs e)

run_whole : (xs : List ℕ) → clips_after_reference xs ≤ greatest_run xs
unfolding clips_after_reference after_last sum_of
run_whole [] = omega arith
run_whole (o ∷ xs) = go (ref_op o) refl (holds ref_op xs) refl (run_whole xs)
  where
    go : (t : Bool) → ref_op o ≡ t → (u : Bool) → holds ref_op xs ≡ u → clips_after_reference xs ≤ greatest_run xs → clips_after_reference (o ∷ xs) ≤ greatest_run (o ∷ xs)
    go true e true q h = omega (arith, trail_ref o xs e true q, run-ref o xs e)
    go true e false q h = omega (arith, trail_ref o xs e false q, run-ref o xs e, next_all xs q)
    go false e u q h = omega (arith, trail_other o xs e, run-other o xs e)

pub run_most : (xs : List ℕ) (i : ℕ) → clips_after_reference (take i xs) ≤ greatest_run xs
run_most xs i = omega (arith, run_whole (take i xs), run_part xs i)

-- ---- and as much

next-is : (xs : List ℕ) → clips_to_next xs ≡ sum_of clip_len (between xs)
unfolding clips_to_next
next-is xs = refl

pub run_reached : (xs : List ℕ) → Reached xs
unfolding clips_after_reference after_last sum_of greatest_run
run_reached [] = record { after = 0; is = refl }
run_reached (o ∷ xs) = go (ref_op o) refl (leb (greatest_run xs) (clips_to_next xs)) refl (run_reached xs)
  where
    go : (t : Bool) → ref_op o ≡ t → (u : Bool) → leb (greatest_run xs) (clips_to_next xs) ≡ u → Reached xs → Reached (o ∷ xs)
    go true e true q r =
        let l = leb-true (greatest_run xs) (clips_to_next xs) q in
        record {
          after = suc (length (between xs));
          is = ap (λ (ys : List ℕ). clips_after_reference (o ∷ ys)) (take_between xs) ∙ trail_ref o (between xs) e false (no_ref xs) ∙ omega (arith, next-is xs, run-ref o xs e);
        }
    go true e false q r = kept (holds ref_op (take r.after xs)) refl
      where
        kept : (v : Bool) → holds ref_op (take r.after xs) ≡ v → Reached (o ∷ xs)
        kept true p = record { after = suc r.after; is = trail_ref o (take r.after xs) e true p ∙ r.is ∙ omega (arith, leb-false (greatest_run xs) (clips_to_next xs) q, run-ref o xs e) }
        kept false p = absurd (omega (arith, no_clips (take r.after xs) p, r.is, leb-false (greatest_run xs) (clips_to_next xs) q))
    go false e u q r = record { after = suc r.after; is = trail_other o (take r.after xs) e ∙ r.is ∙ omega (arith, run-other o xs e) }
