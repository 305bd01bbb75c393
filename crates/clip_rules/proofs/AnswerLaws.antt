-- Which case of the answer a call's tests lead to, and what a plan makes of it.
use mathlib.Core.Path.{◌≡◌, refl, ap, ◌∙◌}
use Rattle.std.specs.Prelude.{Ok, Err}
use Rattle.answers.specs.Answer.{Answer}
use mathlib.Core.Bool.{Bool, true, false}
use mathlib.Core.Logic.{inl, inr}
use mathlib.Core.List.{List, [], ◌∷◌, ◌++◌, reverse}
use Prim.Native.Nat.{ℕ, ◌+◌, ◌-◌, ◌≤◌, ◌<◌}
use native.Mathlib.Omega.{arith}
use lib.ListN.{length, take, drop, length-append, length-drop}
use lib.Seq.{length-take-le}
use borrow.Author.Tests.{lt-ltb, le-ltb}
use Rattle.lists.specs.Lists.{facing, splice, sum_of}
use Rattle.lists.proofs.ListLaws.{length_facing}
use Rattle.sam.specs.Op.{len_of}
use Rattle.answers.specs.Settled.{Outcome, Settled, keeps}
use Rattle.answers.specs.declared.Refusal.{Refusal}
use Rattle.answers.specs.declared.Refusal.TheVariants.{TooLong, NoRoom, AmountBeyond}
use Rattle.answers.proofs.Unique.{settled, outcome}
use Rattle.clip_rules.specs.Clipping.{Cut, clip}
use Rattle.clip_rules.specs.InnerPlan.{PlanIs, PlannedIs}
use Rattle.clip_rules.specs.Answer.{given, clipped_ops, clipped_count, is_beyond, clipped_into, clipped_up_to, written, uncounted, without_count}
use Rattle.clip_rules.specs.declared.Clipped.{Clipped}

module _ (xs : List ℕ) (a : ℕ) (b : Bool) (d : List ℕ) where
  -- of a list that is within the limit
  pub within : {limit : ℕ} → length xs ≤ limit → clipped_up_to limit xs a b d ≡ clipped_into xs a b d
  unfolding clipped_up_to
  within {limit} h = simp (le-ltb limit (length xs) h)

  pub too_long : 268435455 < sum_of len_of xs → clipped_into xs a b d ≡ keeps (Err TooLong) d
  unfolding clipped_into
  too_long h = simp (lt-ltb 268435455 (sum_of len_of xs) h)

  pub beyond : sum_of len_of xs ≤ 268435455 → is_beyond xs a b ≡ true → clipped_into xs a b d ≡ keeps (Err AmountBeyond) d
  unfolding clipped_into
  beyond h e = simp (le-ltb 268435455 (sum_of len_of xs) h, e)

  pub no_room : sum_of len_of xs ≤ 268435455 → is_beyond xs a b ≡ false → length d < length (clipped_ops xs a b) → clipped_into xs a b d ≡ keeps (Err NoRoom) d
  unfolding clipped_into
  no_room h e l = simp (le-ltb 268435455 (sum_of len_of xs) h, e, lt-ltb (length d) (length (clipped_ops xs a b)) l)

  pub accepted : sum_of len_of xs ≤ 268435455 → is_beyond xs a b ≡ false → length (clipped_ops xs a b) ≤ length d
      → clipped_into xs a b d ≡ written (clipped_ops xs a b) (clipped_count xs a b) d
  unfolding clipped_into
  accepted h e l = simp (le-ltb 268435455 (sum_of len_of xs) h, e, le-ltb (length d) (length (clipped_ops xs a b)) l)

module _ (xs : List ℕ) (b : Bool) {a skip heads first second lost : ℕ} (P : PlanIs (facing b xs) a skip heads first second lost) where
  ops_are : take heads (first ∷ (second ∷ [])) ++ drop skip (facing b xs) ≡ (clip (facing b xs) a).ops
  ops_are = ap (λ (c : Cut). c.ops) P.cut_is

  pub plan_length : heads + (length xs - skip) ≡ length (clipped_ops xs a b)
  unfolding clipped_ops
  plan_length =
      let l = length_facing b (clip (facing b xs) a).ops in
      let m = length_facing b xs in
      let p = ap length ops_are in
      let q = length-append (take heads (first ∷ (second ∷ []))) (drop skip (facing b xs)) in
      let r = length-take-le heads (first ∷ (second ∷ [])) P.heads_in in
      let s = length-drop skip (facing b xs) in
      omega arith

  module _ (d d' : List ℕ) (n : ℕ) (short : sum_of len_of xs ≤ 268435455) (near : is_beyond xs a b ≡ false) (fits : n ≤ length d) (long : n ≡ heads + (length xs - skip)) where
    done : (ys : List ℕ) → ys ≡ clipped_ops xs a b → d' ≡ splice d 0 ys → Settled (clipped_into xs a b d) (given n lost) d'
    unfolding clipped_count
    done ys e w =
        let l = plan_length in
        let m : n ≡ length (clipped_ops xs a b) = omega arith in
        let k : lost ≡ clipped_count xs a b = ap (λ (c : Cut). c.lost) P.cut_is in
        settled (accepted xs a b d short near (omega arith) ∙ outcome (ap (λ (i : ℕ). given i lost) m ∙ ap (given (length (clipped_ops xs a b))) k) (w ∙ ap (splice d 0) e))

    pub done-start : b ≡ true → d' ≡ splice d 0 (take heads (first ∷ (second ∷ [])) ++ drop skip xs) → Settled (clipped_into xs a b d) (given n lost) d'
    unfolding clipped_ops
    done-start e w = done (take heads (first ∷ (second ∷ [])) ++ drop skip xs) (rw e (rw e at ops_are)) w

    pub done_end : b ≡ false → d' ≡ splice d 0 (reverse (take heads (first ∷ (second ∷ [])) ++ drop skip (reverse xs))) → Settled (clipped_into xs a b d) (given n lost) d'
    unfolding clipped_ops
    done_end e w = done (reverse (take heads (first ∷ (second ∷ [])) ++ drop skip (reverse xs))) (rw e (ap reverse (rw e at ops_are))) w

-- a refusal that comes before the plan
pub unplanned : (limit : ℕ) (xs : List ℕ) (a : ℕ) (b : Bool) (d : List ℕ) {r : Refusal} → PlannedIs limit xs a b (Err r) → clipped_up_to limit xs a b d ≡ keeps (Err r) d
unfolding clipped_up_to
unplanned limit xs a b d (inl (h, e)) = rw e (simp (lt-ltb limit (length xs) h))
unplanned limit xs a b d (inr (inl (h, l, e))) = rw e (simp (le-ltb limit (length xs) h) (too_long xs a b d l))
unplanned limit xs a b d (inr (inr (h, l, m))) = rw m.1 (simp (le-ltb limit (length xs) h) (beyond xs a b d l m.0))

-- an answer without its count
pub uncounted_settled : {o : Outcome (Answer Clipped)} {a : Answer Clipped} {r : Answer ℕ} {m : List ℕ} → r ≡ uncounted a → Settled o a m → Settled (without_count o) r m
uncounted_settled e s = record { answer = e ∙ ap uncounted s.answer; memory = s.memory }

-- with a limit of its own number of ops, no limit is left
pub own_limit : (xs ys : List ℕ) (a : ℕ) (b : Bool) (d : List ℕ) (n : ℕ) → n ≡ length xs → xs ≡ ys → clipped_into ys a b d ≡ clipped_up_to n xs a b d
own_limit xs ys a b d n h f = rw (within xs a b d {limit = n} (omega arith)) (rw f refl)

-- ---- what is given tells its ops and its count

ops_of_given : Answer Clipped → ℕ
ops_of_given (Ok c) = c.written
ops_of_given (Err r) = 0

count_of_given : Answer Clipped → ℕ
count_of_given (Ok c) = c.lost
count_of_given (Err r) = 0

pub given_same : {n k m j : ℕ} → given n m ≡ given k j → (n ≡ k) × (m ≡ j)
unfolding ops_of_given count_of_given
given_same e = (ap ops_of_given e, ap count_of_given e)
