-- None, one or two.
use Prim.Native.Nat.{ℕ, ◌+◌}
use mathlib.Core.Path.{◌≡◌, ap}
use mathlib.Core.List.{[], ◌∷◌}
use native.Mathlib.Omega.{arith}
use lib.ListN.{take}
use Rattle.lists.specs.Lists.{sum_of}
use Rattle.sam.specs.Op.{query_len}
use Rattle.record_left.proofs.heads_query.Goals as goal

pub returns-then-heads-eq0 : goal.returns-then-heads-eq0
unfolding sum_of
returns-then-heads-eq0 c =
    let s : sum_of query_len (take c.args.heads (c.args.a ∷ (c.args.b ∷ []))) ≡ 0 = ap (λ (k : ℕ). sum_of query_len (take k (c.args.a ∷ (c.args.b ∷ [])))) {x = c.args.heads} {y = 0} (omega arith) in
    (omega arith, omega arith)

pub returns-then-heads-eq1 : goal.returns-then-heads-eq1
unfolding sum_of
returns-then-heads-eq1 c =
    let s : sum_of query_len (take c.args.heads (c.args.a ∷ (c.args.b ∷ []))) ≡ query_len c.args.a + 0 = ap (λ (k : ℕ). sum_of query_len (take k (c.args.a ∷ (c.args.b ∷ [])))) {x = c.args.heads} {y = 1} (omega arith) in
    (omega arith, omega arith)

pub returns : goal.returns
unfolding sum_of
returns c =
    let s : sum_of query_len (take c.args.heads (c.args.a ∷ (c.args.b ∷ []))) ≡ query_len c.args.a + (query_len c.args.b + 0) = ap (λ (k : ℕ). sum_of query_len (take k (c.args.a ∷ (c.args.b ∷ [])))) {x = c.args.heads} {y = 2} (omega arith) in
    (omega arith, omega arith)
