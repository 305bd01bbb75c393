-- The run's bases so far and what is left of the run make the run; an op that is neither S nor H, or none, ends it.
use Prim.Native.Nat.{ℕ}
use mathlib.Core.Path.{sym, ap, ◌∙◌}
use mathlib.Core.List.{List}
use native.Mathlib.Omega.{arith}
use borrow.Author.Tests.{ne_eqb}
use Rattle.lists.specs.Lists.{sum_of}
use Rattle.lists.proofs.Walks.{step, done}
use Rattle.ops.specs.Ops.{is_clip}
use Rattle.clip_run_rules.specs.Clips.{soft_len, hard_len, run, after_run}
use Rattle.clip_run_rules.proofs.RunLaws.{run_in, run_out, run-nil, rest_in, rest_out, rest_nil, soft_op, hard_op, other_op}
use Rattle.clip_runs.proofs.clip_run.Goals as goal

pub loop-next-preserved-then-op-eq5 : goal.loop-next-preserved-then-op-eq5
loop-next-preserved-then-op-eq5 g c =
    let xs = g.L.OpList.ops c.args.list in
    let e = step xs c.loop-next.next _ c.op-op.ensures (omega arith) in
    let w = hard_op _ c.if-op-eq5.true in
    let y = ap (λ (l : List ℕ). sum_of soft_len (run is_clip l)) e ∙ run_in is_clip _ _ soft_len w.0 in
    let z = ap (λ (l : List ℕ). sum_of hard_len (run is_clip l)) e ∙ run_in is_clip _ _ hard_len w.0 in
    (omega arith, omega arith, sym (ap (after_run is_clip) e ∙ rest_in is_clip _ _ w.0) ∙ c.loop-next.invariant.2, omega arith, omega arith)

pub returns-then-op-ne4 : goal.returns-then-op-ne4
returns-then-op-ne4 g c =
    let xs = g.L.OpList.ops c.args.list in
    let e = step xs c.loop-next.next _ c.op-op.ensures (omega arith) in
    let w = other_op _ (ne_eqb _ _ c.if-op-ne4.true) (ne_eqb _ _ c.if-op-eq5.false) in
    let y = ap (λ (l : List ℕ). sum_of soft_len (run is_clip l)) e ∙ run_out is_clip _ _ soft_len w in
    let z = ap (λ (l : List ℕ). sum_of hard_len (run is_clip l)) e ∙ run_out is_clip _ _ hard_len w in
    record {
      soft_is = omega arith;
      hard_is = omega arith;
      rest-is = e ∙ sym (ap (after_run is_clip) e ∙ rest_out is_clip _ _ w) ∙ c.loop-next.invariant.2;
      next_in = omega arith;
      soft_fits = omega arith;
      hard_fits = omega arith;
    }

pub loop-next-preserved : goal.loop-next-preserved
loop-next-preserved g c =
    let xs = g.L.OpList.ops c.args.list in
    let e = step xs c.loop-next.next _ c.op-op.ensures (omega arith) in
    let w = soft_op _ c.if-op-ne4.false in
    let y = ap (λ (l : List ℕ). sum_of soft_len (run is_clip l)) e ∙ run_in is_clip _ _ soft_len w.0 in
    let z = ap (λ (l : List ℕ). sum_of hard_len (run is_clip l)) e ∙ run_in is_clip _ _ hard_len w.0 in
    (omega arith, omega arith, sym (ap (after_run is_clip) e ∙ rest_in is_clip _ _ w.0) ∙ c.loop-next.invariant.2, omega arith, omega arith)

pub returns : goal.returns
returns g c =
    let xs = g.L.OpList.ops c.args.list in
    let e = done xs c.loop-next.next (omega arith) in
    let y = ap (λ (l : List ℕ). sum_of soft_len (run is_clip l)) e ∙ run-nil is_clip soft_len in
    let z = ap (λ (l : List ℕ). sum_of hard_len (run is_clip l)) e ∙ run-nil is_clip hard_len in
    record {
      soft_is = omega arith;
      hard_is = omega arith;
      rest-is = done xs _ (omega arith) ∙ sym (ap (after_run is_clip) e ∙ rest_nil is_clip) ∙ c.loop-next.invariant.2;
      next_in = omega arith;
      soft_fits = omega arith;
      hard_fits = omega arith;
    }
