-- Both lengths of an op in one number: the reference bases, and 2^32 times the query bases.
use Prim.Native.Nat.{ℕ, zero, suc, ◌+◌, ◌*◌, ◌≤◌, ◌<◌}
use mathlib.Core.Path.{◌≡◌, sym, ap}
use mathlib.Core.Bool.{Bool, true, false, cond}
use mathlib.Core.List.{List}
use native.Mathlib.Omega.{arith}
use Rattle.lists.specs.Lists.{sum_of}
use Rattle.lists.proofs.Sums.{sum-le}
use Rattle.sam.specs.Op.{len_of, code_of, is_ref, is_query, ref_len, query_len}

-- what each base of an op counts, by its code
abbrev pub weigh : ℕ → ℕ
weigh c = cond (is_ref c) 1 0 + cond (is_query c) 4294967296 0

pub arm : (c k : ℕ) → c ≡ k → weigh k ≡ weigh c
arm c k e = ap weigh (sym e)

-- a code that none of the arms before has
abbrev pub NoneBelow : ℕ → ℕ → Type 0
NoneBelow c zero = Unit {0}
NoneBelow c (suc k) = NoneBelow c k × (c ≡ k → ⊥)

past : (c k : ℕ) → NoneBelow c k → k ≤ c
past c zero h = omega arith
past c (suc k) h = let m = past c k h.0 in let z = h.1 in omega arith

pub last : (c : ℕ) → c < 16 → NoneBelow c 15 → c ≡ 15
last c h k = let m = past c 15 k in omega arith

pub both_is : (o : ℕ) → len_of o * weigh (code_of o) ≡ ref_len o + 4294967296 * query_len o
unfolding ref_len query_len
both_is o = go (is_ref (code_of o)) (is_query (code_of o)) (len_of o)
  where
    go : (r q : Bool) (n : ℕ) → n * (cond r 1 0 + cond q 4294967296 0) ≡ cond r n 0 + 4294967296 * cond q n 0
    go true true n = omega arith
    go true false n = omega arith
    go false true n = omega arith
    go false false n = omega arith

-- neither is longer than the op
some : (t : Bool) (n : ℕ) → cond t n 0 ≤ n
some true n = omega arith
some false n = omega arith

pub ref_short : (o : ℕ) → ref_len o ≤ len_of o
unfolding ref_len
ref_short o = some (is_ref (code_of o)) (len_of o)

pub query_short : (o : ℕ) → query_len o ≤ len_of o
unfolding query_len
query_short o = some (is_query (code_of o)) (len_of o)

pub refs_short : (xs : List ℕ) → sum_of ref_len xs ≤ sum_of len_of xs
refs_short = sum-le ref_len (λ (o : ℕ). len_of o) ref_short

pub queries_short : (xs : List ℕ) → sum_of query_len xs ≤ sum_of len_of xs
queries_short = sum-le query_len (λ (o : ℕ). len_of o) query_short
