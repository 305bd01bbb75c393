-- Inside the two runs of a well placed list only the last op is H, and only H follow an S: a clip keeps that, and puts one H and at most one S in front.
use mathlib.Core.Path.{◌≡◌, refl, sym, ap, ◌∙◌}
use mathlib.Core.Bool.{Bool, true, false, cond}
use mathlib.Core.Logic.{◌⊎◌, inl, inr}
use mathlib.Core.List.{List, [], ◌∷◌, ◌++◌, reverse, reverse-cons, reverse-append, reverse-reverse, append_assoc}
use Prim.Native.Nat.{ℕ, ◌+◌, ◌-◌, min}
use native.Mathlib.Omega.{arith}
use lib.ListN.{length}
use lib.Dec.{eqb, leb}
use borrow.Author.Tests.{eqb-false}
use Rattle.lists.specs.Lists.{facing}
use Rattle.lists.specs.Runs.{after_leading}
use Rattle.lists.proofs.Absurd.{nil-cons}
use Rattle.lists.proofs.EachLaws.{each_reverse}
use Rattle.sam.specs.Op.{len_of, code_of, op_of}
use Rattle.sam.specs.Placement.{AllHard, WellPlaced}
use Rattle.ops.specs.Ops.{read_len}
use Rattle.clip_run_rules.specs.Clips.{is_hard, is_soft, after_run, outer_hard, next_soft, inside, leading_clips}
use Rattle.clip_rules.specs.Clipping.{taking, Cut, hard_of, soft_of, upgraded, cut_into, clip}
use Rattle.clip_rules.specs.Answer.{clipped_ops}
use Rattle.clip_rules.proofs.RuleLaws.{take-nil}
use Rattle.clip_laws.specs.Placement.{KeepsPlaced}
use Rattle.clip_rules.proofs.CodeLaws.{op_code}
use Rattle.clip_laws.proofs.CodeLaws.{hard_code, soft_code}
use Rattle.clip_laws.proofs.TakeLaws.{Way, whole, none, over, cuts, way, take_whole, take_none, take_over, take-cut}

-- ---- from the other end

parts_reverse : (xs left : List ℕ) (o : ℕ) (right : List ℕ) → reverse xs ≡ left ++ (o ∷ right) → xs ≡ reverse right ++ (o ∷ reverse left)
parts_reverse xs left o right e =
    sym (reverse-reverse xs) ∙ ap reverse e ∙ reverse-append left (o ∷ right)
    ∙ ap (λ (l : List ℕ). l ++ reverse left) (reverse-cons o right) ∙ append_assoc (reverse right) (o ∷ []) (reverse left)

none_reverse : (xs : List ℕ) → reverse xs ≡ [] → xs ≡ []
none_reverse xs e = sym (reverse-reverse xs) ∙ ap reverse e

placed_reverse : (xs : List ℕ) → WellPlaced xs → WellPlaced (reverse xs)
placed_reverse xs W =
    record {
      hards = λ left o right e c. turn left right (W.hards (reverse right) o (reverse left) (parts_reverse xs left o right e) c);
      softs = λ left o right e c. hard-turn left right (W.softs (reverse right) o (reverse left) (parts_reverse xs left o right e) c);
    }
  where
    turn : (left right : List ℕ) → (reverse right ≡ []) ⊎ (reverse left ≡ []) → (left ≡ []) ⊎ (right ≡ [])
    turn left right (inl p) = inr (none_reverse right p)
    turn left right (inr p) = inl (none_reverse left p)

    hard-turn : (left right : List ℕ) → AllHard (reverse right) ⊎ AllHard (reverse left) → AllHard left ⊎ AllHard right
    hard-turn left right (inl p) = inr (rw (reverse-reverse right) at (each_reverse _ (reverse right) p))
    hard-turn left right (inr p) = inl (rw (reverse-reverse left) at (each_reverse _ (reverse left) p))

placed_facing : (b : Bool) (xs : List ℕ) → WellPlaced xs → WellPlaced (facing b xs)
placed_facing true xs W = W
placed_facing false xs W = placed_reverse xs W

-- ---- inside the two runs

-- only the last op is H, and only H follow an S
Placed : List ℕ → Type 0
Placed [] = Unit {0}
Placed (o ∷ l) = (code_of o ≡ 5 → l ≡ []) × (code_of o ≡ 4 → AllHard l) × Placed l

-- with one op more in front
longer : (xs pre : List ℕ) (o : ℕ) (l : List ℕ) → xs ≡ pre ++ (o ∷ l) → xs ≡ (pre ++ (o ∷ [])) ++ l
longer xs pre o l e = e ∙ sym (append_assoc pre (o ∷ []) l)

hard_first : (pre : List ℕ) (o : ℕ) → AllHard (pre ++ (o ∷ [])) → AllHard pre × (code_of o ≡ 5)
hard_first [] o a = (tt, a.0)
hard_first (x ∷ pre) o a = let r = hard_first pre o a.1 in ((a.0, r.0), r.1)

hard_none : (pre : List ℕ) → pre ≡ [] → AllHard pre
hard_none pre e = rw e tt

module _ (xs : List ℕ) (W : WellPlaced xs) where
  -- behind an op that is no H
  behind : (pre l : List ℕ) → xs ≡ pre ++ l → (AllHard pre → ⊥) → Placed l
  unfolding Placed
  behind pre [] e n = tt
  behind pre (o ∷ l) e n =
      (λ c. last (W.hards pre o l e c), λ c. hard (W.softs pre o l e c), behind (pre ++ (o ∷ [])) l (longer xs pre o l e) (λ a. n (hard_first pre o a).0))
    where
      last : (pre ≡ []) ⊎ (l ≡ []) → l ≡ []
      last (inl p) = absurd (n (hard_none pre p))
      last (inr p) = p

      hard : AllHard pre ⊎ AllHard l → AllHard l
      hard (inl p) = absurd (n p)
      hard (inr p) = p

  -- from an op that is no clip on
  from_inner : (pre : List ℕ) (o : ℕ) (l : List ℕ) → xs ≡ pre ++ (o ∷ l) → (code_of o ≡ 5 → ⊥) → (code_of o ≡ 4 → ⊥) → Placed (o ∷ l)
  unfolding Placed
  from_inner pre o l e h s = (λ c. absurd (h c), λ c. absurd (s c), behind (pre ++ (o ∷ [])) l (longer xs pre o l e) (λ a. h (hard_first pre o a).1))

  after_softs : (pre l : List ℕ) → xs ≡ pre ++ l → (AllHard pre → ⊥) → Placed (after_run is_soft l)
  unfolding Placed after_leading
  after_softs pre [] e n = tt
  after_softs pre (o ∷ l) e n = go (is_soft (code_of o)) (after_softs (pre ++ (o ∷ [])) l (longer xs pre o l e) (λ a. n (hard_first pre o a).0))
    where
      go : (b : Bool) → Placed (after_run is_soft l) → Placed (cond b (after_run is_soft l) (o ∷ l))
      go true ih = ih
      go false ih = behind pre (o ∷ l) e n

  -- the S run next inside, where no H stands first
  softs_off : (pre : List ℕ) (o : ℕ) (l : List ℕ) → xs ≡ pre ++ (o ∷ l) → (code_of o ≡ 5 → ⊥) → Placed (after_run is_soft (o ∷ l))
  unfolding after_leading
  softs_off pre o l e h = go (is_soft (code_of o)) refl
    where
      go : (b : Bool) → is_soft (code_of o) ≡ b → Placed (cond b (after_run is_soft l) (o ∷ l))
      go true q = after_softs (pre ++ (o ∷ [])) l (longer xs pre o l e) (λ a. h (hard_first pre o a).1)
      go false q = from_inner pre o l e h (eqb-false (code_of o) 4 q)

  runs_off : (pre l : List ℕ) → xs ≡ pre ++ l → Placed (after_run is_soft (after_run is_hard l))
  unfolding Placed after_leading
  runs_off pre [] e = tt
  runs_off pre (o ∷ l) e = go (is_hard (code_of o)) refl (runs_off (pre ++ (o ∷ [])) l (longer xs pre o l e))
    where
      go : (b : Bool) → is_hard (code_of o) ≡ b → Placed (after_run is_soft (after_run is_hard l)) → Placed (after_run is_soft (cond b (after_run is_hard l) (o ∷ l)))
      go true q ih = ih
      go false q ih = softs_off pre o l e (eqb-false (code_of o) 5 q)

  inside_placed : Placed (inside xs)
  unfolding inside
  inside_placed = runs_off [] xs refl

-- ---- a taking keeps it

left_placed : (l : List ℕ) (n : ℕ) → Placed l → Placed (taking l n).left
unfolding Placed
left_placed [] n P = rw (take-nil n) tt
left_placed (o ∷ l) n P = go (way n o) (left_placed l (n - read_len o) P.2)
  where
    go : Way n o → Placed (taking l (n - read_len o)).left → Placed (taking (o ∷ l) n).left
    go (whole g) ih = rw (take_whole n o l g) ih
    go (none g z) ih = rw (take_none n o l g z) P
    go (over g z q s) ih = rw (take_over n o l g z q) P.2
    go (cuts g z q s) ih =
        let m = len_of o - n in
        rw (take-cut n o l g z q) (λ c. P.0 (sym (op_code m o) ∙ c), λ c. P.1 (sym (op_code m o) ∙ c), P.2)

-- ---- and what a clip puts in front fits

in_placed : (l left : List ℕ) (o : ℕ) (right : List ℕ) → Placed l → l ≡ left ++ (o ∷ right) → (code_of o ≡ 5 → right ≡ []) × (code_of o ≡ 4 → AllHard right)
unfolding Placed
in_placed [] [] o right P e = nil-cons e
in_placed [] (x ∷ left) o right P e = nil-cons e
in_placed (x ∷ l) [] o right P e = (λ c. sym tail ∙ P.0 (code ∙ c), λ c. rw tail at (P.1 (code ∙ c)))
  where
    tail : l ≡ right
    tail = cc

    code : code_of x ≡ code_of o
    code = let h : x ≡ o = cc in ap code_of h
in_placed (x ∷ l) (y ∷ left) o right P e = in_placed l left o right P.2 (cc)

front_placed : (k m : ℕ) (l : List ℕ) → Placed l → WellPlaced (hard_of k ∷ (soft_of m ++ l))
unfolding soft_of
front_placed k m l P = go (eqb m 0)
  where
    hard-front : (left : List ℕ) (o : ℕ) (right : List ℕ) → hard_of k ∷ l ≡ left ++ (o ∷ right) → ((code_of o ≡ 5 → (left ≡ []) ⊎ (right ≡ [])) × (code_of o ≡ 4 → AllHard left ⊎ AllHard right))
    hard-front [] o right e = (λ c. inl refl, λ c. inl tt)
    hard-front (x ∷ left) o right e = let r = in_placed l left o right P (cc) in (λ c. inr (r.0 c), λ c. inr (r.1 c))

    soft-front : (left : List ℕ) (o : ℕ) (right : List ℕ) → hard_of k ∷ (op_of m 4 ∷ l) ≡ left ++ (o ∷ right) → ((code_of o ≡ 5 → (left ≡ []) ⊎ (right ≡ [])) × (code_of o ≡ 4 → AllHard left ⊎ AllHard right))
    soft-front [] o right e = (λ c. inl refl, λ c. inl tt)
    soft-front (x ∷ []) o right e =
        let h : hard_of k ≡ x = cc in
        let s : op_of m 4 ≡ o = cc in
        let p = ap code_of h in
        let q = ap code_of s in
        let u = hard_code k in
        let v = soft_code m in
        (λ c. absurd (omega arith), λ c. inl (sym p ∙ u, tt))
    soft-front (x ∷ (y ∷ left)) o right e = let r = in_placed l left o right P (cc) in (λ c. inr (r.0 c), λ c. inr (r.1 c))

    go : (b : Bool) → WellPlaced (hard_of k ∷ (cond b [] (op_of m 4 ∷ []) ++ l))
    go true = record { hards = λ left o right e. (hard-front left o right e).0; softs = λ left o right e. (hard-front left o right e).1 }
    go false = record { hards = λ left o right e. (soft-front left o right e).0; softs = λ left o right e. (soft-front left o right e).1 }

-- ---- the rule

placed_clip : (xs : List ℕ) (a : ℕ) → WellPlaced xs → WellPlaced (clip xs a).ops
unfolding clip upgraded cut_into soft_of
placed_clip xs a W = go (eqb a 0) (eqb (length xs) 0) (leb a (leading_clips xs))
  where
    by : Bool → Bool → Bool → Cut
    by z e w = cond z (record { ops = xs; lost = 0 }) (cond e (record { ops = xs; lost = 0 })
        (cond w (upgraded (outer_hard xs) (next_soft xs) a (inside xs)) (cut_into (outer_hard xs) (next_soft xs) (taking (inside xs) (a - leading_clips xs)))))

    go : (z e w : Bool) → WellPlaced (by z e w).ops
    go true e w = W
    go false true w = W
    go false false true = let u = min (next_soft xs) (a - outer_hard xs) in front_placed (outer_hard xs + u) (next_soft xs - u) (inside xs) (inside_placed xs W)
    go false false false =
        let t = taking (inside xs) (a - leading_clips xs) in
        front_placed (outer_hard xs + next_soft xs + t.bases) 0 t.left (left_placed (inside xs) (a - leading_clips xs) (inside_placed xs W))

pub clip_well_placed : (xs : List ℕ) (a : ℕ) (start : Bool) → KeepsPlaced xs a start
unfolding clipped_ops
clip_well_placed xs a start W = placed_facing start (clip (facing start xs) a).ops (placed_clip (facing start xs) a (placed_facing start xs W))
