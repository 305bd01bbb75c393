-- What was taken and what will be taken of the rest make what is taken of the whole.
use mathlib.Core.Path.{sym, ap, ◌∙◌}
use native.Mathlib.Omega.{arith}
use Rattle.lists.proofs.Walks.{step, done}
use Rattle.clip_rules.specs.Clipping.{taking, more}
use Rattle.clip_rules.proofs.RuleLaws.{goes_enough, goes_stop, taking_turn, take-nil, taken_eq}
use Rattle.clip_taking.proofs.take_bases.Goals as goal

pub returns-then-not-goes_on : goal.returns-then-not-goes_on
returns-then-not-goes_on g c =
    let xs = g.L.OpList.ops c.args.list in
    let e = step xs c.loop-i.i _ c.op-op.ensures (omega arith) in
    let g = goes_stop c.loop-i.left xs c.loop-i.i _ e (sym c.goes_on.ensures ∙ c.if-not-goes_on.true) in
    record {
      taken_is = c.stop.ensures.by_index xs e ∙ ap (more c.loop-i.bases c.loop-i.lost) (sym g) ∙ c.loop-i.invariant.0;
      next_in = omega arith;
      cut_in = c.stop.ensures.next_bound.1;
    }

pub overflow_sub-left : goal.overflow_sub-left
overflow_sub-left g c =
    let g = goes_enough c.loop-i.left c.op-op.result (sym c.goes_on.ensures ∙ c.if-not-goes_on.false) in
    omega arith

pub loop-i-preserved : goal.loop-i-preserved
loop-i-preserved g c =
    let xs = g.L.OpList.ops c.args.list in
    let e = step xs c.loop-i.i _ c.op-op.ensures (omega arith) in
    let t = sym c.goes_on.ensures ∙ c.if-not-goes_on.false in (
      taking_turn c.loop-i.left xs c.loop-i.i _ c.loop-i.bases c.loop-i.lost c.read_len-k.result c.ref_len-lost.result e t c.read_len-k.ensures.0 c.ref_len-lost.ensures.0
          ∙ c.loop-i.invariant.0,
      omega arith,
      omega arith,
    )

pub returns : goal.returns
returns g c =
    let xs = g.L.OpList.ops c.args.list in
    let e = done xs c.loop-i.i (omega arith) in
    let t = ap (λ m. taking m c.loop-i.left) e ∙ take-nil c.loop-i.left in
    record {
      taken_is = taken_eq (done xs _ (omega arith)) (omega arith) (omega arith) ∙ ap (more c.loop-i.bases c.loop-i.lost) (sym t) ∙ c.loop-i.invariant.0;
      next_in = omega arith;
      cut_in = omega arith;
    }
