-- The tests in their order; the reference length that is left is the whole less what is lost.
use Prim.Native.Nat.{ℕ, ◌+◌, ◌-◌}
use mathlib.Core.Path.{◌≡◌, sym, ap, ◌∙◌}
use mathlib.Core.Bool.{cond}
use mathlib.Core.List.{List}
use native.Mathlib.Omega.{arith}
use lib.ListN.{length}
use lib.IntN.{pos, ◌+ℤ◌}
use Rattle.lists.specs.Lists.{sum_of}
use Rattle.signed.specs.Whole.{checked}
use Rattle.sam.specs.Op.{ref_len, query_len}
use Rattle.sam.specs.Record.{seq_len_of, pos_of, op_count_of}
use Rattle.oplist.specs.Ops.{record_ops}
use Rattle.record_rules.specs.Clipping.{differs, placed}
use Rattle.record_rules.specs.InnerPlan.{planned_ops}
use Rattle.record_rules.proofs.PlanLaws.{refated, refs_small, planned_count, ops_count, differs_is, over-is, counted_is}
use Rattle.record_plan.proofs.counted.Goals as goal

pub returns-then-query_differs : goal.returns-then-query_differs
returns-then-query_differs c =
    let left : List ℕ =
    planned_ops c.args.start (record_ops c.args.bam.now) c.args.p
    in
    let tested : c.query_differs.result ≡ differs (seq_len_of c.args.bam.now) (sum_of query_len (record_ops c.args.bam.now)) =
    c.query_differs.ensures
    ∙ ap (λ (n : ℕ). differs n c.short_sums-total.result.query) c.u32_at-len.ensures
    ∙ ap (differs (seq_len_of c.args.bam.now)) (c.short_sums-total.ensures.1 ∙ ap (sum_of query_len) (c.of_record.ensures))
    in
    differs_is c.args.bam.now (left) c.args.start (cond c.args.start c.args.p.lost 0) (sym (tested) ∙ c.if-query_differs.true)

pub returns-then-count_of-gt-MOST_RECORD_OPS : goal.returns-then-count_of-gt-MOST_RECORD_OPS
returns-then-count_of-gt-MOST_RECORD_OPS c =
    let left : List ℕ =
    planned_ops c.args.start (record_ops c.args.bam.now) c.args.p
    in
    let many : length left ≡ c.args.p.heads + (op_count_of c.args.bam.now - c.args.p.skip) =
    let n = ops_count c.args.bam.now c.requires.bam_in_bounds in
    let m = planned_count c.args.start (record_ops c.args.bam.now) c.args.p c.requires.heads_bound (omega arith) in
    omega arith
    in
    let tested : c.query_differs.result ≡ differs (seq_len_of c.args.bam.now) (sum_of query_len (record_ops c.args.bam.now)) =
    c.query_differs.ensures
    ∙ ap (λ (n : ℕ). differs n c.short_sums-total.result.query) c.u32_at-len.ensures
    ∙ ap (differs (seq_len_of c.args.bam.now)) (c.short_sums-total.ensures.1 ∙ ap (sum_of query_len) (c.of_record.ensures))
    in
    let n = many in
    over-is c.args.bam.now (left) c.args.start (cond c.args.start c.args.p.lost 0) (sym (tested) ∙ c.if-query_differs.false) (omega arith)

pub placed-requires-clause-refs_bound : goal.placed-requires-clause-refs_bound
placed-requires-clause-refs_bound c =
    let refs : c.short_sums-total.result.refs ≡ sum_of ref_len (record_ops c.args.bam.now) =
    c.short_sums-total.ensures.0 ∙ ap (sum_of ref_len) (c.of_record.ensures)
    in
    let s = refs_small (record_ops c.args.bam.now) in
    (omega (arith, refs, s, c.requires.bam_bound), omega (arith, s, c.requires.bam_bound, c.requires.bam_value))

pub returns : goal.returns
returns c =
    let left : List ℕ =
    planned_ops c.args.start (record_ops c.args.bam.now) c.args.p
    in
    let many : length left ≡ c.args.p.heads + (op_count_of c.args.bam.now - c.args.p.skip) =
    let n = ops_count c.args.bam.now c.requires.bam_in_bounds in
    let m = planned_count c.args.start (record_ops c.args.bam.now) c.args.p c.requires.heads_bound (omega arith) in
    omega arith
    in
    let tested : c.query_differs.result ≡ differs (seq_len_of c.args.bam.now) (sum_of query_len (record_ops c.args.bam.now)) =
    c.query_differs.ensures
    ∙ ap (λ (n : ℕ). differs n c.short_sums-total.result.query) c.u32_at-len.ensures
    ∙ ap (differs (seq_len_of c.args.bam.now)) (c.short_sums-total.ensures.1 ∙ ap (sum_of query_len) (c.of_record.ensures))
    in
    let n = many in
    refated c.args.bam.now c.args.start
    (counted_is c.args.bam.now (left) c.args.start (cond c.args.start c.args.p.lost 0) (sym (tested) ∙ c.if-query_differs.false) (omega arith)
    ∙ ap (λ (m₁ : ℕ). placed c.args.bam.now (left) c.args.start m₁ (checked (pos_of c.args.bam.now +ℤ pos m₁))) (sym c.start_count.ensures.0))
    c.placed.result
    c.placed.ensures
