-- The run's bases so far and what is left of the run make the run; an op outside the mask, or none, ends it.
use Prim.Native.Nat.{ℕ}
use mathlib.Core.Path.{sym, ap, ◌∙◌}
use mathlib.Core.List.{List}
use native.Mathlib.Omega.{arith}
use Rattle.lists.specs.Lists.{sum_of}
use Rattle.lists.proofs.Walks.{step, done}
use Rattle.clip_run_rules.specs.Clips.{soft_len, hard_len, run, after_run}
use Rattle.clip_run_rules.specs.InnerWalked.{in_mask}
use Rattle.clip_run_rules.proofs.RunLaws.{run_in, run_out, run-nil, rest_in, rest_out, rest_nil}
use Rattle.clip_runs.proofs.run_at.Goals as goal

pub returns-then-not-in_mask : goal.returns-then-not-in_mask
returns-then-not-in_mask g c =
    let p = in_mask c.args.mask in
    let xs = g.L.OpList.ops c.args.list in
    let e = step xs c.loop-next.next _ c.op-op.ensures (omega arith) in
    let w = sym c.in_mask.ensures ∙ c.if-not-in_mask.true in
    let y = ap (λ (l : List ℕ). sum_of soft_len (run p l)) e ∙ run_out p _ _ soft_len w in
    let z = ap (λ (l : List ℕ). sum_of hard_len (run p l)) e ∙ run_out p _ _ hard_len w in
    record {
      soft_is = omega arith;
      hard_is = omega arith;
      rest-is = e ∙ sym (ap (after_run p) e ∙ rest_out p _ _ w) ∙ c.loop-next.invariant.2;
      next_in = omega arith;
      soft_fits = omega arith;
      hard_fits = omega arith;
    }

pub loop-next-preserved : goal.loop-next-preserved
loop-next-preserved g c =
    let p = in_mask c.args.mask in
    let xs = g.L.OpList.ops c.args.list in
    let e = step xs c.loop-next.next _ c.op-op.ensures (omega arith) in
    let w = sym c.in_mask.ensures ∙ c.if-not-in_mask.false in
    let y = ap (λ (l : List ℕ). sum_of soft_len (run p l)) e ∙ run_in p _ _ soft_len w in
    let z = ap (λ (l : List ℕ). sum_of hard_len (run p l)) e ∙ run_in p _ _ hard_len w in
    (omega arith, omega arith, sym (ap (after_run p) e ∙ rest_in p _ _ w) ∙ c.loop-next.invariant.2, omega arith, omega arith)

pub returns : goal.returns
returns g c =
    let p = in_mask c.args.mask in
    let xs = g.L.OpList.ops c.args.list in
    let e = done xs c.loop-next.next (omega arith) in
    let y = ap (λ (l : List ℕ). sum_of soft_len (run p l)) e ∙ run-nil p soft_len in
    let z = ap (λ (l : List ℕ). sum_of hard_len (run p l)) e ∙ run-nil p hard_len in
    record {
      soft_is = omega arith;
      hard_is = omega arith;
      rest-is = done xs _ (omega arith) ∙ sym (ap (after_run p) e ∙ rest_nil p) ∙ c.loop-next.invariant.2;
      next_in = omega arith;
      soft_fits = omega arith;
      hard_fits = omega arith;
    }
