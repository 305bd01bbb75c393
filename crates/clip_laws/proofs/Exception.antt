-- Demand 3's exception is needed: 5M3I2D6M meets every other premise, 8 is the end of the insertion that 6 falls inside, and 6 then 8 is not 8. antt computes both.
use mathlib.Core.Path.{◌≡◌, refl, ap}
use mathlib.Core.Bool.{true}
use mathlib.Core.List.{List, [], ◌∷◌, ◌++◌}
use Prim.Native.Nat.{ℕ, ◌+◌, ◌≤◌, ◌<◌}
use native.Mathlib.Omega.{arith}
use lib.Dec.{lit<, lit≤}
use lib.ListN.{length}
use Rattle.lists.specs.Lists.{sum_of}
use Rattle.lists.specs.Runs.{leading, after_leading}
use Rattle.lists.proofs.Absurd.{nil-cons}
use Rattle.sam.specs.Op.{len_of, code_of, op_of, is_ref, ref_len}
use Rattle.ops.specs.Ops.{is_read, read_len, is_clip}
use Rattle.clip_run_rules.specs.Clips.{outer_hard, next_soft, inside, leading_clips}
use Rattle.oplist.specs.Ops.{most_ops}
use Rattle.clip_rules.specs.Clipping.{goes, ends, taking, soft_of, upgraded, cut_into, clip}
use Rattle.clip_rules.specs.Answer.{clipped_ops}
use Rattle.clip_laws.specs.Demand3.{is_inner, Takes, most, survives, EndsInsertion}

-- 5M3I2D6M
abbrev inserted : List ℕ
inserted = op_of 5 0 ∷ op_of 3 1 ∷ op_of 2 2 ∷ op_of 6 0 ∷ []

pub takes : Takes most_ops inserted
unfolding is_inner sum_of
takes =
    record {
      shape = record {
        hards = [];
        softs = [];
        inner = inserted;
        softs' = [];
        hards' = [];
        list_is = refl;
        hards_are = tt;
        softs_are = tt;
        inner_are = (refl, (refl, (refl, (refl, tt))));
        inner_some = lit< tt;
        softs'_are = tt;
        hards'_are = tt;
      };
      few = lit< tt;
      short = lit< tt;
    }

pub in_bounds : 8 ≤ most takes.shape true
unfolding takes leading_clips leading sum_of is_clip read_len is_read
in_bounds = lit≤ tt

pub survivor : survives (clipped_ops inserted 6 true) ≡ true
unfolding is_read is_ref is_clip is_inner read_len ref_len leading sum_of after_leading goes ends taking soft_of upgraded cut_into outer_hard next_soft inside leading_clips clip clipped_ops survives
survivor = refl

pub excluded : EndsInsertion inserted 6 8
unfolding inside leading_clips leading sum_of after_leading is_clip read_len is_read
excluded =
    record {
      before = op_of 5 0 ∷ [];
      insertion = op_of 3 1;
      after = op_of 2 2 ∷ (op_of 6 0 ∷ []);
      list_is = refl;
      is_insertion = refl;
      a_past = omega arith;
      a_within = omega arith;
      b_end = omega arith;
    }

-- three ops are left, and two
pub needed : clipped_ops (clipped_ops inserted 6 true) 8 true ≡ clipped_ops inserted 8 true → ⊥
unfolding is_read is_ref is_clip read_len ref_len leading sum_of after_leading goes ends taking soft_of upgraded cut_into outer_hard next_soft inside leading_clips clip clipped_ops
needed t = let e : ◌≡◌ {A = ℕ} 3 2 = ap length t in omega arith

-- no equivalence is claimed: 3I5M by 1 then 3 is excluded too, and is 3
abbrev first : List ℕ
first = op_of 3 1 ∷ (op_of 5 0 ∷ [])

pub excluded_too : EndsInsertion first 1 3
unfolding inside leading_clips leading sum_of after_leading is_clip read_len is_read
excluded_too =
    record {
      before = [];
      insertion = op_of 3 1;
      after = op_of 5 0 ∷ [];
      list_is = refl;
      is_insertion = refl;
      a_past = omega arith;
      a_within = omega arith;
      b_end = omega arith;
    }

pub equal_too : clipped_ops (clipped_ops first 1 true) 3 true ≡ clipped_ops first 3 true
unfolding is_read is_ref is_clip read_len ref_len leading sum_of after_leading goes ends taking soft_of upgraded cut_into outer_hard next_soft inside leading_clips clip clipped_ops
equal_too = refl

-- ---- no wider than its words

-- two equal amounts are never excluded
pub same_not : (xs : List ℕ) (a : ℕ) → EndsInsertion xs a a → ⊥
same_not xs a E = omega (arith, E.a_within)

-- in 5M3I2D6M the insertion is the only one: an amount falls inside it from 6 on, and it ends at 8
only : (a b : ℕ) → EndsInsertion inserted a b → (5 < a) × (b ≡ 8)
unfolding inside leading_clips leading after_leading is_clip sum_of read_len is_read
only a b E = go E.before E.insertion E.after E.list_is E.is_insertion (omega (arith, E.a_past)) (omega (arith, E.b_end))
  where
    go : (before : List ℕ) (i : ℕ) (after : List ℕ) → inserted ≡ before ++ (i ∷ after) → code_of i ≡ 1 → 0 + sum_of read_len before < a → b ≡ 0 + (sum_of read_len before + len_of i) → (5 < a) × (b ≡ 8)
    go [] i after e c p q = let h : op_of 5 0 ≡ i = cc in absurd (omega (arith, ap code_of h))
    go (x ∷ []) i after e c p q = let h : op_of 5 0 ≡ x = cc in let k : op_of 3 1 ≡ i = cc in let r = ap read_len h in let l = ap len_of k in (omega arith, omega arith)
    go (x ∷ (y ∷ [])) i after e c p q = let h : op_of 2 2 ≡ i = cc in absurd (omega (arith, ap code_of h))
    go (x ∷ (y ∷ (z ∷ []))) i after e c p q = let h : op_of 6 0 ≡ i = cc in absurd (omega (arith, ap code_of h))
    go (x ∷ (y ∷ (z ∷ (u ∷ before)))) i after e c p q = none before i after (cc)
      where
        none : (before : List ℕ) (i : ℕ) (after : List ℕ) → [] ≡ before ++ (i ∷ after) → (5 < a) × (b ≡ 8)
        none [] i after e = nil-cons e
        none (v ∷ before) i after e = nil-cons e

-- so a at its start is not excluded, and b past its end is not
pub start_not : EndsInsertion inserted 5 8 → ⊥
start_not E = let o = only 5 8 E in omega (arith, o.0)

pub past_not : EndsInsertion inserted 6 9 → ⊥
past_not E = let o = only 6 9 E in omega (arith, o.1)
