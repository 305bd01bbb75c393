-- Demand 3: the facing list's laws carried to both ends, for every call that clips by the rule; no call is refused, since a clip adds at most one op and no length, and what
-- could be clipped still can.
use mathlib.Core.Path.{◌≡◌, refl, sym, subst, ap, ◌∙◌}
use Rattle.std.specs.Prelude.{Ok}
use Rattle.answers.specs.Answer.{Answer}
use mathlib.Core.Bool.{Bool, true, false, ◌||◌}
use mathlib.Core.List.{List, [], ◌∷◌, ◌++◌, reverse, reverse-cons}
use Prim.Native.Nat.{ℕ, ◌+◌, ◌-◌, ◌^◌, ◌≤◌, ◌<◌}
use native.Mathlib.Omega.{arith}
use lib.ListN.{length, take, drop, length-append}
use lib.Seq.{take_at}
use lib.Dec.{eqb, leb, ltb}
use borrow.Author.Tests.{leb-true, leb-false, eqb-true, eqb-false, le-ltb}
use Rattle.lists.specs.Lists.{facing, splice, sum_of}
use Rattle.lists.proofs.ListLaws.{length_facing}
use Rattle.lists.proofs.Sums.{sum-cons, sum-append, sum_facing, facing_facing}
use Rattle.sam.specs.Op.{len_of, code_of, ref_len}
use Rattle.ops.specs.Ops.{read_len}
use Rattle.clip_run_rules.specs.Clips.{outer_hard, leading_clips}
use Rattle.clip_rules.specs.Clipping.{taking, Cut, hard_of, soft_of, clip}
use Rattle.answers.specs.Settled.{Outcome}
use Rattle.clip_rules.specs.Answer.{given, clipped_ops, clipped_count, clippable, is_beyond, clipped_into, clipped_up_to, clipped_record, written, without_count, start_up_to, end_up_to, record_start, record_end}
use Rattle.clip_rules.specs.declared.Clipped.{Clipped}
use Rattle.clip_rules.proofs.AnswerLaws.{within, accepted, given_same}
use Rattle.clip_rules.proofs.BeyondLaws.{some_beyond, not_within}
use Rattle.clip_laws.specs.Demand3.{is_inner, kept_len, Shaped, Takes, most, survives, Clipper, Leaves, StartGives, EndGives, Given, Clips, Further, StartOnce, StartThen, Demand3Start, EndOnce, EndThen, Demand3End, Itself, InRecord}
use Rattle.clip_laws.proofs.CodeLaws.{hard_len, hard_code}
use Rattle.clip_laws.proofs.ShapeLaws.{Headed, left_headed, left_length, left_total, soft_length, soft_total, shaped_facing, shaped_inner, tail_clips, shaped_runs, shaped_reads}
use Rattle.clip_laws.proofs.ClipLaws.{once, twice, still_clippable, on_none, on_soft, on_inner}
use Rattle.clip_laws.proofs.Drops.{clip_drops, drops_length}

-- ---- what survives, from either end

survives_snoc : (xs : List ℕ) (o : ℕ) → survives (xs ++ (o ∷ [])) ≡ (is_inner (code_of o) || survives xs)
unfolding survives
survives_snoc [] o = refl
survives_snoc (x ∷ xs) o = ap (λ (b : Bool). is_inner (code_of x) || b) (survives_snoc xs o) ∙ swap (is_inner (code_of x)) (is_inner (code_of o)) (survives xs)
  where
    swap : (p q r : Bool) → (p || (q || r)) ≡ (q || (p || r))
    swap true true r = refl
    swap true false r = refl
    swap false true r = refl
    swap false false r = refl

survives_facing : (b : Bool) (xs : List ℕ) → survives (facing b xs) ≡ survives xs
unfolding survives
survives_facing true xs = refl
survives_facing false [] = refl
survives_facing false (o ∷ xs) = rw (reverse-cons o xs) (survives_snoc (reverse xs) o ∙ ap (λ (b : Bool). is_inner (code_of o) || b) (survives_facing false xs))

survives_hard : (k : ℕ) (l : List ℕ) → survives (hard_of k ∷ l) ≡ survives l
unfolding survives is_inner
survives_hard k l = simp (hard_code k)

-- ---- a clipped list has at most one op more, and no larger total

total_some : (l : List ℕ) → 0 < sum_of len_of l → 0 < length l
unfolding sum_of
total_some [] h = absurd (omega arith)
total_some (o ∷ l) h = omega arith

total_hard : (k : ℕ) (l : List ℕ) → sum_of len_of (hard_of k ∷ l) ≡ k + sum_of len_of l
total_hard k l = sum-cons len_of (hard_of k) l ∙ ap (λ n. n + sum_of len_of l) (hard_len k)

record Small (xs : List ℕ) (a : ℕ) : Type 0 where
  long : length (clip xs a).ops ≤ length xs + 1
  total : sum_of len_of (clip xs a).ops ≤ sum_of len_of xs

module _ (xs : List ℕ) (S : Shaped xs) (a : ℕ) where
  parts_length : length xs ≡ length S.hards + (length S.softs + length (S.inner ++ (S.softs' ++ S.hards')))
  parts_length =
      let e = ap length S.list_is in
      let p = length-append S.hards (S.softs ++ (S.inner ++ (S.softs' ++ S.hards'))) in
      let q = length-append S.softs (S.inner ++ (S.softs' ++ S.hards')) in
      omega arith

  parts_total : sum_of len_of xs ≡ sum_of len_of S.hards + (sum_of len_of S.softs + sum_of len_of (S.inner ++ (S.softs' ++ S.hards')))
  parts_total =
      let e = ap (sum_of len_of) S.list_is in
      let p = sum-append len_of S.hards (S.softs ++ (S.inner ++ (S.softs' ++ S.hards'))) in
      let q = sum-append len_of S.softs (S.inner ++ (S.softs' ++ S.hards')) in
      omega arith

  clips_some : 0 < sum_of len_of S.hards + sum_of len_of S.softs → 0 < length S.hards + length S.softs
  clips_some h = go (leb (sum_of len_of S.hards) 0) refl
    where
      go : (b : Bool) → leb (sum_of len_of S.hards) 0 ≡ b → 0 < length S.hards + length S.softs
      go true e = let f = leb-true (sum_of len_of S.hards) 0 e in let g = total_some S.softs (omega arith) in omega arith
      go false e = let g = total_some S.hards (leb-false (sum_of len_of S.hards) 0 e) in omega arith

  small_soft : (a ≡ 0 → ⊥) → a ≤ sum_of len_of S.hards + sum_of len_of S.softs → Small xs a
  small_soft z k =
      let h = sum_of len_of S.hards in
      let s = sum_of len_of S.softs in
      let l = S.inner ++ (S.softs' ++ S.hards') in
      let m = s - (a - h) in
      let p = parts_length in
      let q = parts_total in
      let x = soft_length m l in
      let y = total_hard (h + (a - h)) (soft_of m ++ l) in
      let w = sum-append len_of (soft_of m) l in
      let v = soft_total m in
      let c = clips_some (omega arith) in
      record { long = rw (on_soft (shaped_runs S) a z k) (omega arith); total = rw (on_soft (shaped_runs S) a z k) (omega arith) }

  small_inner : sum_of len_of S.hards + sum_of len_of S.softs < a → Small xs a
  small_inner k =
      let h = sum_of len_of S.hards in
      let s = sum_of len_of S.softs in
      let l = S.inner ++ (S.softs' ++ S.hards') in
      let n = a - (h + s) in
      let p = parts_length in
      let q = parts_total in
      let x = left_length l n in
      let w = left_total l n in
      let y = total_hard (h + s + (taking l n).bases) (taking l n).left in
      record { long = rw (on_inner (shaped_runs S) a k) (omega arith); total = rw (on_inner (shaped_runs S) a k) (omega arith) }

  small : Small xs a
  small = go (eqb a 0) refl (leb a (sum_of len_of S.hards + sum_of len_of S.softs)) refl
    where
      go : (z : Bool) → eqb a 0 ≡ z → (p : Bool) → leb a (sum_of len_of S.hards + sum_of len_of S.softs) ≡ p → Small xs a
      go true e p f = record { long = rw (on_none (shaped_runs S) a (eqb-true a 0 e)) (omega arith); total = rw (on_none (shaped_runs S) a (eqb-true a 0 e)) (omega arith) }
      go false e true f = small_soft (eqb-false a 0 e) (leb-true a (sum_of len_of S.hards + sum_of len_of S.softs) f)
      go false e false f = small_inner (leb-false a (sum_of len_of S.hards + sum_of len_of S.softs) f)

-- ---- both ends

ops_facing : (xs : List ℕ) (a : ℕ) (start : Bool) → facing start (clipped_ops xs a start) ≡ (clip (facing start xs) a).ops
unfolding clipped_ops
ops_facing xs a start = facing_facing start (clip (facing start xs) a).ops

-- the count and the reference length that is left, for every list and amount
lost_is : (xs : List ℕ) (a : ℕ) (start : Bool) → clipped_count xs a start + sum_of ref_len (clipped_ops xs a start) ≡ sum_of ref_len xs
unfolding clipped_count
lost_is xs a start =
    let p = sum_facing ref_len start (clipped_ops xs a start) in
    let q = drops_length (facing start xs) (facing start (clipped_ops xs a start)) (clip (facing start xs) a).lost (clip_drops xs a start) in
    let r = sum_facing ref_len start xs in
    omega arith

module _ {limit : ℕ} (xs : List ℕ) (start : Bool) (T : Takes limit xs) where
  seen : Shaped (facing start xs)
  seen = shaped_facing start xs T.shape

  -- demand 3's amounts are those that can be clipped
  pub most_is : most T.shape start ≡ clippable xs start
  unfolding clippable
  most_is = let r = shaped_reads T.shape in omega arith

  -- so 19 is due exactly where the amount is none of them
  pub beyond_is : (a : ℕ) → is_beyond xs a start ≡ ltb (most T.shape start) a
  beyond_is a = some_beyond xs a start (λ e. let l = length_facing start xs in (shaped_runs seen).some (omega arith)) ∙ ap (λ (n : ℕ). ltb n a) (sym most_is)

  module _ (a : ℕ) where
    pub small_ops : (length (clipped_ops xs a start) ≤ length xs + 1) × (sum_of len_of (clipped_ops xs a start) ≤ sum_of len_of xs)
    small_ops =
        let m = small (facing start xs) seen a in
        let p = length_facing start xs in
        let q = sum_facing len_of start xs in
        let r = ap length (ops_facing xs a start) in
        let t = ap (sum_of len_of) (ops_facing xs a start) in
        let u = length_facing start (clipped_ops xs a start) in
        let v = sum_facing len_of start (clipped_ops xs a start) in
        (omega (arith, m.long), omega (arith, m.total))

    clips-is : a ≤ most T.shape start → Clips start xs a (clipped_ops xs a start)
    unfolding seen
    clips-is le =
        let p = (shaped_runs seen).clips_are in
        let q = shaped_inner start xs T.shape in
        let O = once seen.inner (seen.softs' ++ seen.hards') (shaped_runs seen) seen.inner_are (tail_clips seen) a (omega arith) in
        let e = ops_facing xs a start in
        let k₁ = sum_facing kept_len start (clipped_ops xs a start) in
        let k₂ = ap (sum_of kept_len) e in
        let k₃ = sum_facing kept_len start xs in
        record {
          floor = let h = ap outer_hard e in omega (arith, O.floor);
          kept = omega (arith, O.kept);
          long = small_ops.0;
        }

    -- what can be clipped after it is no less
    pub still : clippable xs start ≤ clippable (clipped_ops xs a start) start
    unfolding clippable
    still =
        let p = still_clippable (shaped_runs seen) a in
        let q = ap leading_clips (ops_facing xs a start) in
        let r = ap (sum_of read_len) (ops_facing xs a start) in
        let u = sum_facing read_len start xs in
        let v = sum_facing read_len start (clipped_ops xs a start) in
        omega arith

    module _ (b : ℕ) (F : Further start xs a b (clipped_ops xs a start)) where
      headed : sum_of len_of seen.hards + sum_of len_of seen.softs < a
          → Headed (taking (seen.inner ++ (seen.softs' ++ seen.hards')) (a - (sum_of len_of seen.hards + sum_of len_of seen.softs))).left
      headed k =
          let l = seen.inner ++ (seen.softs' ++ seen.hards') in
          let h = sum_of len_of seen.hards + sum_of len_of seen.softs in
          left_headed seen.inner (seen.softs' ++ seen.hards') (a - h) seen.inner_are (tail_clips seen)
          (sym (survives_hard (h + (taking l (a - h)).bases) (taking l (a - h)).left)
          ∙ ap (λ (c : Cut). survives c.ops) (sym (on_inner (shaped_runs seen) a k))
          ∙ ap survives (sym (ops_facing xs a start))
          ∙ survives_facing start (clipped_ops xs a start)
          ∙ F.survivor)

      pub rule-twice : (clipped_ops (clipped_ops xs a start) b start ≡ clipped_ops xs b start) × (clipped_count xs a start + clipped_count (clipped_ops xs a start) b start ≡ clipped_count xs b start)
      unfolding clipped_ops clipped_count
      rule-twice =
          let t = twice (shaped_runs seen) a b F.le headed F.apart in
          let f = ops_facing xs a start in (
            ap (λ (l : List ℕ). facing start (clip l b).ops) f ∙ ap (λ (c : Cut). facing start c.ops) (sym t),
            ap (λ (l : List ℕ). (clip (facing start xs) a).lost + (clip l b).lost) f ∙ ap (λ (c : Cut). c.lost) (sym t),
          )

-- ---- two answers into one buffer are the same answer, and where they tell its length the same list

pub take_written : (d xs : List ℕ) → take (length xs) (splice d 0 xs) ≡ xs
unfolding splice
take_written d xs = take_at xs (drop (0 + length xs) d) (length xs) refl

module _ {A : Type 0} (f : Clipper A) (s : List ℕ) (a : ℕ) {x y : A} (xs ys : List ℕ) (X : Leaves f s a x xs) (Y : Leaves f s a y ys) where
  same : ◌≡◌ {A = Outcome A} (record { answer = x; left = splice (xs ++ ys) 0 xs }) (record { answer = y; left = splice (xs ++ ys) 0 ys })
  same = let l = length-append xs ys in sym (X (xs ++ ys) (omega arith)) ∙ Y (xs ++ ys) (omega arith)

  same_answer : x ≡ y
  same_answer = ap (λ (o : Outcome A). o.answer) same

  same_list : length xs ≡ length ys → xs ≡ ys
  same_list p =
      let d = xs ++ ys in
      sym (take_written d xs) ∙ ap (λ (o : Outcome A). take (length xs) o.left) same ∙ ap (λ (k : ℕ). take k (splice d 0 ys)) p ∙ take_written d ys

pub same_start : (f : Clipper (Answer Clipped)) (s : List ℕ) (a : ℕ) (xs ys : List ℕ) (m n : ℕ) → StartGives f s a xs m → StartGives f s a ys n → (xs ≡ ys) × (m ≡ n)
same_start f s a xs ys m n X Y =
    let same = given_same (same_answer f s a xs ys X Y) in
    (same_list f s a xs ys X Y same.0, same.1)

pub same_end : (f : Clipper (Answer ℕ)) (s : List ℕ) (a : ℕ) (xs ys : List ℕ) → EndGives f s a xs → EndGives f s a ys → xs ≡ ys
same_end f s a xs ys X Y =
    let e = same_answer f s a xs ys X Y in
    let p : length xs ≡ length ys = cc in
    same_list f s a xs ys X Y p

-- ---- every call that clips by the rule what it takes, at one end; it tells the ops written, and a count or none

module _ {A : Type 0} (tells : ℕ → ℕ → A) (limit : ℕ) (Holds : List ℕ → List ℕ → Type 0) (start : Bool) (f : Clipper A) where
  -- the rule's answer for the list that s holds
  abbrev Ruled : List ℕ → List ℕ → ℕ → Type 0
  Ruled s xs a = Leaves f s a (tells (length (clipped_ops xs a start)) (clipped_count xs a start)) (clipped_ops xs a start)

  -- it clips each list of at most `limit` ops, that is not too long, by what can be clipped
  abbrev Rules : Type 0
  Rules = (s xs : List ℕ) → Holds s xs → length xs ≤ limit → sum_of len_of xs < 2 ^ 28 → (a : ℕ) → a ≤ clippable xs start → Ruled s xs a

  module _ (rules : Rules) (xs : List ℕ) where
    by-rule : (s : List ℕ) (a : ℕ) → Given limit Holds start s xs a → Ruled s xs a
    by-rule s a G = rules s xs G.holds (omega (arith, G.takes.few)) G.takes.short a (omega (arith, G.within, most_is xs start G.takes))

    -- as a second call it takes what a first one left
    then_rule : (a b : ℕ) (T : Takes limit xs) → b ≤ most T.shape start → Further start xs a b (clipped_ops xs a start) → (t : List ℕ) → Holds t (clipped_ops xs a start)
        → Leaves f t b (tells (length (clipped_ops xs b start)) (clipped_count (clipped_ops xs a start) b start)) (clipped_ops xs b start)
    then_rule a b T le F t K =
        let m = small_ops xs start T a in
        let w = still xs start T a in
        let v = most_is xs start T in
        let C = rules t (clipped_ops xs a start) K (omega (arith, T.few, m.0)) (omega (arith, T.short, m.1)) b (omega arith) in
        rw (rule-twice xs start T a b F).0 at C

-- what holds of an amount holds of a smaller one
less : {limit : ℕ} {Holds : List ℕ → List ℕ → Type 0} {start : Bool} {s xs : List ℕ} (a b : ℕ) → a ≤ b → Given limit Holds start s xs b → Given limit Holds start s xs a
less a b le G = record { holds = G.holds; takes = G.takes; within = omega (arith, G.within) }

-- ---- DEMAND 3 at the start and at the end

-- the answers of the rule at the start
abbrev start_tells : ℕ → ℕ → Answer Clipped
start_tells n count = given n count

abbrev end_tells : ℕ → ℕ → Answer ℕ
end_tells n count = Ok n

-- the rules of a call at the start, and at the end
abbrev pub StartRules : ℕ → (List ℕ → List ℕ → Type 0) → Clipper (Answer Clipped) → Type 0
StartRules limit Holds f = Rules start_tells limit Holds true f

abbrev pub EndRules : ℕ → (List ℕ → List ℕ → Type 0) → Clipper (Answer ℕ) → Type 0
EndRules limit Holds f = Rules end_tells limit Holds false f

pub start_then : (limit : ℕ) (Holds : List ℕ → List ℕ → Type 0) (f : Clipper (Answer Clipped)) → StartRules limit Holds f
    → (Left : List ℕ → List ℕ → Type 0) (g : Clipper (Answer Clipped)) → StartRules limit Left g → StartThen limit Holds f Left g
start_then limit Holds f rules Left g then-rules s xs a b G ys first A zs whole B F t K =
    let p = same_start f s a ys (clipped_ops xs a true) first (clipped_count xs a true) A (by-rule start_tells limit Holds true f rules xs s a (less a b F.le G)) in
    let q = same_start f s b zs (clipped_ops xs b true) whole (clipped_count xs b true) B (by-rule start_tells limit Holds true f rules xs s b G) in
    let F' = subst (Further true xs a b) p.0 F in
    let C = then_rule start_tells limit Left true g then-rules xs a b G.takes G.within F' t (subst (Left t) p.0 K) in
    record {
      second = clipped_count (clipped_ops xs a true) b true;
      then_b = rw (← q.0) at C;
      counts_add = ap (λ (k : ℕ). k + clipped_count (clipped_ops xs a true) b true) p.1 ∙ (rule-twice xs true G.takes a b F').1 ∙ sym q.1;
    }

pub start_demand3 : (limit : ℕ) (Holds : List ℕ → List ℕ → Type 0) (f : Clipper (Answer Clipped)) → StartRules limit Holds f → Demand3Start limit Holds f
start_demand3 limit Holds f rules = record { once = once_is; twice = start_then limit Holds f rules Holds f rules }
  where
    once_is : (s xs : List ℕ) (a : ℕ) → Given limit Holds true s xs a → StartOnce f s xs a
    once_is s xs a G =
        record {
          ys = clipped_ops xs a true;
          count = clipped_count xs a true;
          gives = by-rule start_tells limit Holds true f rules xs s a G;
          clips = clips-is xs true G.takes a G.within;
          lost = lost_is xs a true;
        }

pub end_then : (limit : ℕ) (Holds : List ℕ → List ℕ → Type 0) (f : Clipper (Answer ℕ)) → EndRules limit Holds f
    → (Left : List ℕ → List ℕ → Type 0) (g : Clipper (Answer ℕ)) → EndRules limit Left g → EndThen limit Holds f Left g
end_then limit Holds f rules Left g then-rules s xs a b G ys A zs B F t K =
    let p = same_end f s a ys (clipped_ops xs a false) A (by-rule end_tells limit Holds false f rules xs s a (less a b F.le G)) in
    let q = same_end f s b zs (clipped_ops xs b false) B (by-rule end_tells limit Holds false f rules xs s b G) in
    let C = then_rule end_tells limit Left false g then-rules xs a b G.takes G.within (subst (Further false xs a b) p F) t (subst (Left t) p K) in
    rw (← q) at C

pub end_demand3 : (limit : ℕ) (Holds : List ℕ → List ℕ → Type 0) (f : Clipper (Answer ℕ)) → EndRules limit Holds f → Demand3End limit Holds f
end_demand3 limit Holds f rules = record { once = once_is; twice = end_then limit Holds f rules Holds f rules }
  where
    once_is : (s xs : List ℕ) (a : ℕ) → Given limit Holds false s xs a → EndOnce f s xs a
    once_is s xs a G =
        record {
          ys = clipped_ops xs a false;
          gives = by-rule end_tells limit Holds false f rules xs s a G;
          clips = clips-is xs false G.takes a G.within;
        }

-- ---- the calls

-- the rule's answer into a buffer that has room
pub ruled : (xs : List ℕ) (a : ℕ) (start : Bool) → sum_of len_of xs < 2 ^ 28 → a ≤ clippable xs start → (d : List ℕ) → length (clipped_ops xs a start) ≤ length d
    → clipped_into xs a start d ≡ written (clipped_ops xs a start) (clipped_count xs a start) d
ruled xs a start short le d room = accepted xs a start d (omega arith) (not_within xs a start le) room

-- of a list, and of a record
of_list : (limit : ℕ) (start : Bool) (s xs : List ℕ) → Itself s xs → length xs ≤ limit → sum_of len_of xs < 2 ^ 28 → (a : ℕ) → a ≤ clippable xs start → (d : List ℕ) → length (clipped_ops xs a start) ≤ length d
    → clipped_up_to limit s a start d ≡ written (clipped_ops xs a start) (clipped_count xs a start) d
of_list limit start s xs H few short a le d room = rw H (within xs a start d few ∙ ruled xs a start short le d room)

of_record : (start : Bool) (b xs : List ℕ) → InRecord b xs → sum_of len_of xs < 2 ^ 28 → (a : ℕ) → a ≤ clippable xs start → (d : List ℕ) → length (clipped_ops xs a start) ≤ length d
    → clipped_record b a start d ≡ written (clipped_ops xs a start) (clipped_count xs a start) d
unfolding clipped_record
of_record start b xs H short a le d room = simp (le-ltb (length b) 32 H.0, H.1) (ruled xs a start short le d room)

pub start_rules : (limit : ℕ) → StartRules limit Itself (start_up_to limit)
start_rules limit = of_list limit true

pub end_rules : (limit : ℕ) → EndRules limit Itself (end_up_to limit)
end_rules limit s xs H few short a le d room = ap without_count (of_list limit false s xs H few short a le d room)

pub list_start : (limit : ℕ) → Demand3Start limit Itself (start_up_to limit)
list_start limit = start_demand3 limit Itself (start_up_to limit) (start_rules limit)

pub list_end : (limit : ℕ) → Demand3End limit Itself (end_up_to limit)
list_end limit = end_demand3 limit Itself (end_up_to limit) (end_rules limit)

pub record-start : (limit : ℕ) → Demand3Start limit InRecord record_start
record-start limit = start_demand3 limit InRecord record_start (λ b xs H few short a le d room. of_record true b xs H short a le d room)

pub record-end : (limit : ℕ) → Demand3End limit InRecord record_end
record-end limit = end_demand3 limit InRecord record_end (λ b xs H few short a le d room. ap without_count (of_record false b xs H short a le d room))
