-- Document 01: "An overhang never exceeds the read's query length." Every count of the walk is of query bases of the list.
use Prim.Native.Nat.{ℕ, ◌+◌, ◌-◌, ◌≤◌}
use mathlib.Core.Path.{◌≡◌, refl}
use mathlib.Core.Bool.{Bool, true, false, cond, ◌&&◌}
use mathlib.Core.List.{List, [], ◌∷◌}
use native.Mathlib.Omega.{arith}
use lib.IntN.{ℤ, pos, ◌+ℤ◌}
use lib.Dec.{ltb}
use lib.Signed.{lt_z}
use borrow.Author.Tests.{ltb-true, eqb-true}
use Rattle.lists.specs.Lists.{facing, sum_of}
use Rattle.lists.specs.Runs.{leading}
use Rattle.lists.proofs.Sums.{sum_facing}
use Rattle.signed.specs.Whole.{clamp32}
use Rattle.sam.specs.Op.{len_of, code_of, is_query, is_ref, query_len, ref_len}
use Rattle.ops.specs.Ops.{is_clip}
use Rattle.clip_run_rules.specs.Clips.{is_soft, len_if, soft_len, run, leading_soft}
use Rattle.overhang_rules.specs.Reach.{span_to, bases_up_to, soft_clip}
use Rattle.overhang_rules.specs.Overhang.{end_of, soft_start, soft_end, gap_to, earlier_of, later_of, bases_past, forward_overhang, reverse_overhang, overhang_of}

-- bases of an op that lie over reference bases are query bases
over_query : (o : ℕ) → is_query (code_of o) ≡ true → ref_len o ≤ query_len o
unfolding query_len ref_len
over_query o e = simp e (go (is_ref (code_of o)))
  where
    go : (r : Bool) → cond r (len_of o) 0 ≤ len_of o
    go true = omega arith
    go false = omega arith

pub up_to_most : (on : ℕ) (t p : ℤ) (xs : List ℕ) → bases_up_to on t p xs ≤ sum_of query_len xs
unfolding bases_up_to sum_of
up_to_most on t p [] = omega arith
up_to_most on t p (o ∷ xs) = go (lt_z t p) (is_query (code_of o)) refl (ltb (span_to on t p) (ref_len o)) refl (up_to_most on t (clamp32 (p +ℤ pos (ref_len o))) xs)
  where
    next : ℕ
    next = bases_up_to on t (clamp32 (p +ℤ pos (ref_len o))) xs

    go : (a b : Bool) → is_query (code_of o) ≡ b → (c : Bool) → ltb (span_to on t p) (ref_len o) ≡ c → next ≤ sum_of query_len xs
        → cond a 0 (cond (b && c) (span_to on t p) (query_len o + next)) ≤ query_len o + sum_of query_len xs
    go true b e c f ih = omega arith
    go false true e true f ih = omega (arith, over_query o e, ltb-true (span_to on t p) (ref_len o) f)
    go false true e false f ih = omega arith
    go false false e c f ih = omega arith

soft_query : (o : ℕ) → soft_len o ≤ query_len o
unfolding len_if query_len is_query
soft_query o = go (is_soft (code_of o)) refl
  where
    go : (b : Bool) → is_soft (code_of o) ≡ b → cond b (len_of o) 0 ≤ query_len o
    go true e = let q : query_len o ≡ len_of o = simp (eqb-true (code_of o) 4 e) in omega arith
    go false e = omega arith

clipped_most : (xs : List ℕ) → leading_soft xs ≤ sum_of query_len xs
unfolding leading_soft leading sum_of
clipped_most [] = omega arith
clipped_most (o ∷ xs) = go (is_clip (code_of o)) (clipped_most xs)
  where
    go : (b : Bool) → leading_soft xs ≤ sum_of query_len xs → sum_of soft_len (cond b (o ∷ run is_clip xs) []) ≤ query_len o + sum_of query_len xs
    go true ih = let q = soft_query o in omega arith
    go false ih = omega arith

soft_most : (b : Bool) (xs : List ℕ) → soft_clip b xs ≤ sum_of query_len xs
soft_most b xs = omega (arith, clipped_most (facing b xs), sum_facing query_len b xs)

-- one of three: the soft clip less something, nothing, or a count less something
one_of : (a b : Bool) (s g n k most : ℕ) → s ≤ most → n ≤ most → cond a (s - g) (cond b 0 (n - k)) ≤ most
one_of true b s g n k most h i = omega arith
one_of false true s g n k most h i = omega arith
one_of false false s g n k most h i = omega arith

pub overhang_most : (b : Bool) (p : ℤ) (xs : List ℕ) (m : ℤ) (ys : List ℕ) → overhang_of b p xs m ys ≤ sum_of query_len xs
unfolding overhang_of forward_overhang reverse_overhang
overhang_most true p xs m ys =
    one_of (lt_z (end_of m ys) p) (lt_z (end_of p xs) m) (soft_clip true xs) (gap_to p (soft_start m ys))
    (bases_up_to 0 (later_of p m) p xs) (bases_up_to 0 (later_of p m) m ys) (sum_of query_len xs) (soft_most true xs) (up_to_most 0 (later_of p m) p xs)
overhang_most false p xs m ys =
    let last = earlier_of (end_of p xs) (end_of m ys) in
    one_of (lt_z (end_of p xs) m) (lt_z (end_of m ys) p) (soft_clip false xs) (gap_to (soft_end m ys) (end_of p xs))
    (bases_past last p xs) (bases_past last m ys) (sum_of query_len xs) (soft_most false xs) (omega arith)
