-- What was written is the first part of the sizes and of the starts: each stretch that an N ends is the next block, and the open one at the end the last.
use Prim.Native.Nat.{◌+◌}
use mathlib.Core.Path.{◌≡◌, refl, sym, ◌∙◌}
use mathlib.Core.Bool.{false}
use native.Mathlib.Omega.{arith}
use lib.Dec.{eqb}
use lib.ListN.{length}
use Rattle.lists.proofs.ListLaws.{splice_nil}
use Rattle.bed_walk.proofs.PassLaws.{Left, left_all, left_turn, fit_not_early, end_fit, end-count}
use Rattle.bed.proofs.PutLaws.{written-length, put_next, put_last}
use Rattle.bed.proofs.write.Goals as goal

pub loop-op-init : goal.loop-op-init
loop-op-init c =
    (omega arith, left_all _, sym (splice_nil _ 0), sym (splice_nil _ 0))

pub loop-op-preserved : goal.loop-op-preserved
loop-op-preserved c =
    let turned : Left c.pass-next.result (c.loop-op.op-index + 1) c.args.ops.now =
    left_turn _ c.loop-op.invariant.1 refl c.loop-op-test.true (fit_not_early _ c.loop-op.invariant.1 refl c.loop-op-test.true c.requires.ops_len_bound.1) c.pass-next.ensures.0 c.pass-next.ensures.1
    in (
      omega arith,
      turned,
      c.put.ensures.sizes_after ∙ put_next (λ b. b.size) c.loop-op.invariant.1 _ _ c.requires.ops_in_bounds.0 c.loop-op.invariant.2 _ (turned) refl c.loop-op-test.true c.pass-next.ensures.0,
      c.put.ensures.starts_after ∙ put_next (λ b. b.start) c.loop-op.invariant.1 _ _ c.requires.ops_in_bounds.1 c.loop-op.invariant.3 _ (turned) refl c.loop-op-test.true c.pass-next.ensures.0,
    )

pub put-requires-2-clause-n_in_bounds : goal.put-requires-2-clause-n_in_bounds
put-requires-2-clause-n_in_bounds c =
    let last : eqb c.loop-op.walk.size 0 ≡ false = sym (end_fit c.loop-op.invariant.1 c.loop-op-test.false _ refl) ∙ c.requires.ops_len_bound.1 in
    let a : length c.loop-op.sizes ≡ length c.args.sizes.now = written-length (λ b. b.size) c.loop-op.invariant.1 _ _ c.requires.ops_in_bounds.0 c.loop-op.invariant.2 in
    let b : length c.loop-op.starts ≡ length c.args.starts.now = written-length (λ b. b.start) c.loop-op.invariant.1 _ _ c.requires.ops_in_bounds.1 c.loop-op.invariant.3 in
    let n = end-count c.loop-op.invariant.1 c.loop-op-test.false last in
    (omega (arith, c.requires.ops_in_bounds.0), omega (arith, c.requires.ops_in_bounds.1))

pub returns-clause-sizes_after : goal.returns-clause-sizes_after
returns-clause-sizes_after c =
    let last : eqb c.loop-op.walk.size 0 ≡ false = sym (end_fit c.loop-op.invariant.1 c.loop-op-test.false _ refl) ∙ c.requires.ops_len_bound.1 in
    c.put-2.ensures.sizes_after ∙ put_last (λ b. b.size) c.loop-op.invariant.1 _ _ c.requires.ops_in_bounds.0 c.loop-op.invariant.2 c.loop-op-test.false last

pub returns-clause-starts_after : goal.returns-clause-starts_after
returns-clause-starts_after c =
    let last : eqb c.loop-op.walk.size 0 ≡ false = sym (end_fit c.loop-op.invariant.1 c.loop-op-test.false _ refl) ∙ c.requires.ops_len_bound.1 in
    c.put-2.ensures.starts_after ∙ put_last (λ b. b.start) c.loop-op.invariant.1 _ _ c.requires.ops_in_bounds.1 c.loop-op.invariant.3 c.loop-op-test.false last
