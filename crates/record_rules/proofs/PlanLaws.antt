-- What a plan of the ops leaves: its sums and how many ops it has; and the cases of a fate.
use Prim.Native.Nat.{ℕ, ◌+◌, ◌-◌, ◌≤◌, ◌<◌}
use Rattle.std.specs.Prelude.{Err, None, Ok, Option, Some}
use Rattle.answers.specs.Answer.{Answer}
use mathlib.Core.Path.{◌≡◌, refl, sym, ap, ◌∙◌}
use mathlib.Core.Bool.{Bool, true, false, cond}
use mathlib.Core.Logic.{inl, inr}
use mathlib.Core.List.{List, [], ◌∷◌, ◌++◌, reverse}
use native.Mathlib.Omega.{arith}
use borrow.Author.Tests.{lt-ltb, le-ltb, le-leb}
use lib.IntN.{ℤ, pos, ◌+ℤ◌}
use lib.Signed.{lt_z}
use lib.ListN.{length, take, drop, take-append-drop, length-append, length-take, length-drop}
use Rattle.lists.specs.Lists.{facing, splice, sum_of}
use Rattle.lists.proofs.ListLaws.{length_facing}
use Rattle.lists.proofs.Sums.{sum-append, sum_facing}
use Rattle.signed.specs.Whole.{checked}
use Rattle.sam.specs.Op.{len_of, code_of, is_ref, ref_len, query_len}
use Rattle.sam.specs.Record.{seq_len_of, pos_of, ops_start, ops_end, op_count_of, ops_in, tags_start}
use Rattle.oplist.specs.Ops.{record_ops}
use Rattle.oplist.specs.Few.{length_ops_in}
use Rattle.answers.specs.Settled.{Settled, keeps}
use Rattle.answers.proofs.Unique.{settled, outcome}
use Rattle.answers.specs.declared.Refusal.{Refusal}
use Rattle.answers.specs.declared.Refusal.TheVariants.{ShortRecord, AreaOverrun, Overflow, NoRoom, TooLong, AmountBeyond, QueryDiffers, CountOver}
use Rattle.length_rules.specs.Lengths.{as_int}
use Rattle.bin_rules.specs.Bin.{bin_from}
use Rattle.clip_rules.specs.declared.Plan.{Plan}
use Rattle.clip_rules.specs.Clipping.{Cut, clip}
use Rattle.clip_rules.specs.Answer.{clipped_ops, clipped_count, is_beyond}
use Rattle.clip_rules.specs.InnerPlan.{PlanIs, PlannedIs}
use Rattle.clip_laws.proofs.Drops.{clip_drops, drops_length}
use Rattle.record_rules.specs.Written.{Change, new_record}
use Rattle.record_rules.specs.Clipping.{most_record_ops, differs, lost_query, new_len, first_kept, start_count, bin_at, Fate, Refuses, Becomes, binned, placed, counted, clipped_fate, put_into, written}
use Rattle.record_rules.specs.InnerPlan.{planned_ops, change_by, Fits, FateIs}
use Rattle.record_rules.specs.declared.RecordPlan.{RecordPlan}

-- ---- what a plan leaves

module _ (start : Bool) (xs : List ℕ) (p : Plan) where
  kept_sum : (f : ℕ → ℕ) → sum_of f (planned_ops start xs p) ≡ sum_of f (take p.heads (p.first ∷ p.second ∷ [])) + sum_of f (drop p.skip (facing start xs))
  kept_sum f =
      sum_facing f start (take p.heads (p.first ∷ p.second ∷ []) ++ drop p.skip (facing start xs))
      ∙ sum-append f (take p.heads (p.first ∷ p.second ∷ [])) (drop p.skip (facing start xs))

  -- the query that is lost is that of the ops that are taken, less that of those put in their place
  pub lost_is : lost_query xs (planned_ops start xs p) ≡ sum_of query_len (take p.skip (facing start xs)) - sum_of query_len (take p.heads (p.first ∷ p.second ∷ []))
  lost_is =
      let k = kept_sum query_len in
      let w = ap (sum_of query_len) (take-append-drop p.skip (facing start xs)) in
      let s = sum-append query_len (take p.skip (facing start xs)) (drop p.skip (facing start xs)) in
      let f = sum_facing query_len start xs in
      omega arith

  pub planned_count : p.heads ≤ 2 → p.skip ≤ length xs → length (planned_ops start xs p) ≡ p.heads + (length xs - p.skip)
  planned_count h k =
      let f = length_facing start (take p.heads (p.first ∷ p.second ∷ []) ++ drop p.skip (facing start xs)) in
      let a = length-append (take p.heads (p.first ∷ p.second ∷ [])) (drop p.skip (facing start xs)) in
      let t = length-take p.heads (p.first ∷ p.second ∷ []) in
      let d = length-drop p.skip (facing start xs) in
      let l = length_facing start xs in
      omega arith

-- the ops that are left, from either end
pub planned_start : (start : Bool) (xs : List ℕ) (p : Plan) → start ≡ true → take p.heads (p.first ∷ (p.second ∷ [])) ++ drop p.skip xs ≡ planned_ops start xs p
planned_start start xs p e = rw e

pub planned_end : (start : Bool) (xs : List ℕ) (p : Plan) → start ≡ false
    → reverse (take p.heads (p.first ∷ (p.second ∷ [])) ++ drop p.skip (reverse xs)) ≡ planned_ops start xs p
planned_end start xs p e = rw e

module _ (xs : List ℕ) (start : Bool) (amount : ℕ) (p : Plan) (P : PlanIs (facing start xs) amount p.skip p.heads p.first p.second p.lost) where
  pub planned_is : planned_ops start xs p ≡ clipped_ops xs amount start
  unfolding clipped_ops
  planned_is = ap (λ (c : Cut). facing start c.ops) P.cut_is

  pub count-is : cond start p.lost 0 ≡ start_count xs amount start
  unfolding clipped_count
  count-is = ap (λ (c : Cut). cond start c.lost 0) P.cut_is

  pub refs_are : sum_of ref_len xs ≡ p.lost + sum_of ref_len (planned_ops start xs p)
  refs_are =
      let d = drops_length (facing start xs) (facing start (clipped_ops xs amount start)) (clip (facing start xs) amount).lost (clip_drops xs amount start) in
      let l : p.lost ≡ (clip (facing start xs) amount).lost = ap (λ (c : Cut). c.lost) P.cut_is in
      let a = sum_facing ref_len start xs in
      let b = sum_facing ref_len start (clipped_ops xs amount start) in
      let e = ap (sum_of ref_len) planned_is in
      omega arith

  pub skip_fits : p.skip ≤ length xs
  skip_fits = let l = length_facing start xs in omega (arith, P.skip_in)

-- the reference bases are among all
ref_small : (o : ℕ) → ref_len o ≤ len_of o
unfolding ref_len
ref_small o = go (is_ref (code_of o))
  where
    go : (t : Bool) → cond t (len_of o) 0 ≤ len_of o
    go true = omega arith
    go false = omega arith

pub refs_small : (xs : List ℕ) → sum_of ref_len xs ≤ sum_of len_of xs
unfolding sum_of
refs_small [] = omega arith
refs_small (o ∷ xs) = let a = ref_small o in let b = refs_small xs in omega arith

pub ops_lie : (b : List ℕ) → tags_start b ≤ length b → record_ops b ≡ ops_in b (ops_start b) (op_count_of b)
unfolding record_ops
ops_lie b h = simp (le-leb (ops_end b) (length b) (omega arith))

pub ops_count : (b : List ℕ) → tags_start b ≤ length b → length (record_ops b) ≡ op_count_of b
ops_count b h = ap length (ops_lie b h) ∙ length_ops_in b (ops_start b) (op_count_of b)

-- how many ops a plan leaves that fits
pub ops_left : (b : List ℕ) (start : Bool) (p : RecordPlan) → Fits b p → p.n ≡ length (change_by b start p).ops
ops_left b start p F =
    let o = ops_count b F.whole in
    let l = planned_count start (record_ops b) p.ops F.heads_in (omega (arith, F.skip_in)) in
    omega (arith, F.n-is, F.skip_in)

-- ---- the cases of a fate

-- another name for a fate
pub refated : (b : List ℕ) (start : Bool) {f g : Fate} → f ≡ g → (r : Answer RecordPlan) → FateIs b start g r → FateIs b start f r
refated b start e (Ok p) x = (e ∙ x.0, x.1)
refated b start e (Err r) x = e ∙ x

pub kept_start : (b : List ℕ) (start : Bool) (n : ℕ) → start ≡ true → first_kept b start n ≡ seq_len_of b - n
kept_start b start n e = rw e

pub bin_before : (z : ℤ) (refs : ℕ) → lt_z z (pos 0) ≡ true → Ok 4680 ≡ bin_at z refs
unfolding bin_at
bin_before z refs e = simp e

pub bin_behind : (z : ℤ) (refs : ℕ) → lt_z z (pos 0) ≡ false → refs < 268435456 → bin_from z (Ok (pos refs)) ≡ bin_at z refs
unfolding bin_at as_int
bin_behind z refs e h = simp (e, le-ltb 2147483647 refs (omega arith))

module _ (b ys : List ℕ) (start : Bool) (count : ℕ) where
  pub binned_is : (z : ℤ) (n : Answer ℕ) (place : ℤ) (bin len from : ℕ) → place ≡ z → n ≡ Ok bin → len ≡ new_len b ys → from ≡ first_kept b start len
      → binned b ys start count z n ≡ Becomes (record { ops = ys; place = place; bin = bin; len = len; from = from; count = count })
  unfolding binned
  binned_is z n place bin len from d e f g = rw (d, e, g, f) refl

  pub binned_not : (z : ℤ) (n : Answer ℕ) (r : Refusal) → n ≡ Err r → binned b ys start count z n ≡ Refuses r
  unfolding binned
  binned_not z n r e = ap (binned b ys start count z) e

  pub placed_is : (s : Option ℤ) (z : ℤ) (refs : ℕ) → s ≡ Some z → refs ≡ sum_of ref_len ys → placed b ys start count s ≡ binned b ys start count z (bin_at z refs)
  unfolding placed
  placed_is s z refs e f = ap (placed b ys start count) e ∙ ap (λ (k : ℕ). binned b ys start count z (bin_at z k)) (sym f)

  pub placed_not : (s : Option ℤ) → s ≡ None → placed b ys start count s ≡ Refuses Overflow
  unfolding placed
  placed_not s e = ap (placed b ys start count) e

  pub differs_is : differs (seq_len_of b) (sum_of query_len (record_ops b)) ≡ true → counted b ys start count ≡ Refuses QueryDiffers
  unfolding counted
  differs_is e = simp e

  module _ (e : differs (seq_len_of b) (sum_of query_len (record_ops b)) ≡ false) where
    pub over-is : 65535 < length ys → counted b ys start count ≡ Refuses CountOver
    unfolding counted
    over-is h = simp (e, lt-ltb most_record_ops (length ys) h)

    pub counted_is : length ys ≤ 65535 → counted b ys start count ≡ placed b ys start count (checked (pos_of b +ℤ pos count))
    unfolding counted
    counted_is h = simp (e, le-ltb most_record_ops (length ys) h)

module _ (b : List ℕ) (amount : ℕ) (start : Bool) where
  pub short_is : length b < 32 → clipped_fate b amount start ≡ Refuses ShortRecord
  unfolding clipped_fate
  short_is h = simp (lt-ltb (length b) 32 h)

  module _ (l : 32 ≤ length b) where
    pub overrun-is : length b < tags_start b → clipped_fate b amount start ≡ Refuses AreaOverrun
    unfolding clipped_fate
    overrun-is h = simp (le-ltb (length b) 32 l, lt-ltb (length b) (tags_start b) h)

    module _ (t : tags_start b ≤ length b) where
      pub long-is : 268435455 < sum_of len_of (record_ops b) → clipped_fate b amount start ≡ Refuses TooLong
      unfolding clipped_fate
      long-is h = simp (le-ltb (length b) 32 l, le-ltb (length b) (tags_start b) t, lt-ltb 268435455 (sum_of len_of (record_ops b)) h)

      module _ (s : sum_of len_of (record_ops b) ≤ 268435455) where
        pub beyond_is : is_beyond (record_ops b) amount start ≡ true → clipped_fate b amount start ≡ Refuses AmountBeyond
        unfolding clipped_fate
        beyond_is e = simp (le-ltb (length b) 32 l, le-ltb (length b) (tags_start b) t, le-ltb 268435455 (sum_of len_of (record_ops b)) s, e)

        pub within-is : is_beyond (record_ops b) amount start ≡ false
            → clipped_fate b amount start ≡ counted b (clipped_ops (record_ops b) amount start) start (start_count (record_ops b) amount start)
        unfolding clipped_fate
        within-is e = simp (le-ltb (length b) 32 l, le-ltb (length b) (tags_start b) t, le-ltb 268435455 (sum_of len_of (record_ops b)) s, e)

      -- a refusal of the ops' plan
      pub refused-is : (r : Refusal) → PlannedIs (length (record_ops b)) (record_ops b) amount start (Err r) → clipped_fate b amount start ≡ Refuses r
      refused-is r (inl h) = absurd (omega (arith, h.0))
      refused-is r (inr (inl h)) = long-is h.1 ∙ ap Refuses (sym h.2)
      refused-is r (inr (inr h)) = beyond_is h.1 h.2.0 ∙ ap Refuses (sym h.2.1)

-- ---- what is written

pub no_room : (new : List ℕ) (count : ℕ) (d : List ℕ) (size : ℕ) → size ≡ length new → length d < size → Settled (put_into new count d) (Err NoRoom) d
unfolding put_into
no_room new count d size e h = settled (simp (lt-ltb (length d) (length new) (omega arith)))

pub room : (new : List ℕ) (count : ℕ) (d d' : List ℕ) (size : ℕ) → size ≡ length new → size ≤ length d → d' ≡ splice d 0 new → Settled (put_into new count d) (Ok (record { written = size; lost = count })) d'
unfolding put_into
room new count d d' size e h w = settled (simp (le-ltb (length d) (length new) (omega arith)) (outcome (ap (λ (k : ℕ). (Ok (record { written = k; lost = count }))) e) w))

module _ (b d : List ℕ) {f : Fate} where
  pub becomes_is : {c : Change} → f ≡ Becomes c → written b f d ≡ put_into (new_record b c) c.count d
  unfolding written
  becomes_is e = ap (λ (g : Fate). written b g d) e

  pub refuses_is : {r : Refusal} → f ≡ Refuses r → written b f d ≡ keeps (Err r) d
  unfolding written
  refuses_is e = ap (λ (g : Fate). written b g d) e
