-- Of every list and amount: a clipped list has no larger total and no more query bases, and its ops are numbers of 32 bits.
use Prim.Native.Nat.{ℕ, ◌+◌, ◌-◌, ◌≤◌, ◌<◌, min}
use mathlib.Core.Path.{◌≡◌, ap, ◌∙◌}
use mathlib.Core.Bool.{Bool, true, false, cond}
use mathlib.Core.List.{List, [], ◌∷◌, ◌++◌}
use native.Mathlib.Omega.{arith}
use lib.ListN.{length}
use lib.Dec.{eqb, leb}
use Rattle.lists.specs.Lists.{Each, facing, sum_of}
use Rattle.lists.proofs.Sums.{sum-cons, sum-append, sum_facing}
use Rattle.sam.specs.Op.{len_of, query_len}
use Rattle.sam.specs.Columns.{columns, queries}
use Rattle.sam.proofs.ColumnLaws.{queries_append}
use Rattle.sam.proofs.LengthLaws.{query-length}
use Rattle.clip_run_rules.specs.Clips.{outer_hard, next_soft, inside, leading_clips}
use Rattle.clip_run_rules.proofs.RunLaws.{outer_total}
use Rattle.clip_rules.specs.Clipping.{taking, hard_of, soft_of, upgraded, cut_into, clip}
use Rattle.clip_rules.specs.Answer.{clipped_ops}
use Rattle.clip_laws.proofs.CodeLaws.{hard_len}
use Rattle.clip_laws.proofs.Drops.{clip_drops}
use Rattle.clip_laws.proofs.ShapeLaws.{soft_total, left_total}

-- ---- the total

hard_total : (k : ℕ) (l : List ℕ) → sum_of len_of (hard_of k ∷ l) ≡ k + sum_of len_of l
hard_total k l = sum-cons len_of (hard_of k) l ∙ ap (λ (n : ℕ). n + sum_of len_of l) (hard_len k)

clip_total : (xs : List ℕ) (a : ℕ) → sum_of len_of (clip xs a).ops ≤ sum_of len_of xs
unfolding clip upgraded cut_into
clip_total xs a = go (eqb a 0) (eqb (length xs) 0) (leb a (leading_clips xs))
  where
    h : ℕ
    h = outer_hard xs

    s : ℕ
    s = next_soft xs

    u : ℕ
    u = min s (a - h)

    soft : h + u + sum_of len_of (soft_of (s - u) ++ inside xs) ≤ sum_of len_of xs
    soft =
        let o = outer_total xs in
        let t = sum-append len_of (soft_of (s - u)) (inside xs) in
        let m = soft_total (s - u) in
        omega arith

    go : (z w p : Bool) → sum_of len_of (cond z (record { ops = xs; lost = 0 }) (cond w (record { ops = xs; lost = 0 }) (cond p (upgraded h s a (inside xs)) (cut_into h s (taking (inside xs) (a - leading_clips xs)))))).ops ≤ sum_of len_of xs
    go true w p = omega arith
    go false true p = omega arith
    go false false true = let e = hard_total (h + u) (soft_of (s - u) ++ inside xs) in let t = soft in omega arith
    go false false false =
        let t = taking (inside xs) (a - leading_clips xs) in
        let e = hard_total (h + s + t.bases) t.left in
        let l = left_total (inside xs) (a - leading_clips xs) in
        let o = outer_total xs in
        omega arith

pub clipped_total : (xs : List ℕ) (a : ℕ) (start : Bool) → sum_of len_of (clipped_ops xs a start) ≤ sum_of len_of xs
unfolding clipped_ops
clipped_total xs a start =
    let t = clip_total (facing start xs) a in
    let p = sum_facing len_of start xs in
    let q = sum_facing len_of start (clip (facing start xs) a).ops in
    omega arith

-- ---- ops as numbers

pub small_ops : (xs : List ℕ) → sum_of len_of xs ≤ 268435455 → Each (λ o. o < 4294967296) xs
small_ops [] h = tt
small_ops (o ∷ xs) h = let e = sum-cons len_of o xs in (omega arith, small_ops xs (omega arith))

-- ---- the query

pub clipped_query : (xs : List ℕ) (a : ℕ) (start : Bool) → sum_of query_len (clipped_ops xs a start) ≤ sum_of query_len xs
clipped_query xs a start =
    let D = clip_drops xs a start in
    let p = query-length (facing start xs) in
    let q = query-length (facing start (clipped_ops xs a start)) in
    let r = ap queries D.list_is in
    let s = queries_append D.gone (columns (facing start (clipped_ops xs a start))) in
    let u = sum_facing query_len start xs in
    let v = sum_facing query_len start (clipped_ops xs a start) in
    omega arith
