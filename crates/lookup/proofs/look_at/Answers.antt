-- What the walk has passed stands before what it sees in the rest: each op holds the reference base, or is passed.
use Rattle.sam.proofs.ColumnLaws.{spot_eq}
use Rattle.lookup_rules.proofs.FindLaws.{look_turn, look_held, look_done}
use Rattle.lookup_rules.proofs.PlaceLaws.{place_turn, place_held, place_done}
use mathlib.Core.Bool.{true, false}
use mathlib.Core.Path.{refl, sym, ◌∙◌}
use native.Mathlib.Omega.{arith}
use Rattle.lookup.proofs.look_at.Goals as goal

pub returns-then-consumes_query-clause-result_value : goal.returns-then-consumes_query-clause-result_value
returns-then-consumes_query-clause-result_value g c =
    let xs = g.L.OpList.ops c.args.list in (look_held xs c.loop-i.i _ c.op-op.ensures (omega arith) c.loop-i.before c.loop-i.left _ true c.ref_len-refs.ensures.0 (sym c.if-consumes_query.true ∙ c.consumes_query.ensures) c.if-left-refs.true ∙ c.loop-i.invariant.1, omega arith)

pub returns-then-consumes_query-clause-place_value : goal.returns-then-consumes_query-clause-place_value
returns-then-consumes_query-clause-place_value g c =
    let xs = g.L.OpList.ops c.args.list in place_held xs c.loop-i.i _ c.op-op.ensures (omega arith) c.loop-i.left _ c.ref_len-refs.ensures.0 c.if-left-refs.true ∙ c.loop-i.invariant.2

pub returns-then-left-refs-clause-result_value : goal.returns-then-left-refs-clause-result_value
returns-then-left-refs-clause-result_value g c =
    let xs = g.L.OpList.ops c.args.list in (spot_eq (omega arith) refl ∙ look_held xs c.loop-i.i _ c.op-op.ensures (omega arith) c.loop-i.before c.loop-i.left _ false c.ref_len-refs.ensures.0 (sym c.if-consumes_query.false ∙ c.consumes_query.ensures) c.if-left-refs.true ∙ c.loop-i.invariant.1, omega arith)

pub returns-then-left-refs-clause-place_value : goal.returns-then-left-refs-clause-place_value
returns-then-left-refs-clause-place_value g c =
    let xs = g.L.OpList.ops c.args.list in place_held xs c.loop-i.i _ c.op-op.ensures (omega arith) c.loop-i.left _ c.ref_len-refs.ensures.0 c.if-left-refs.true ∙ c.loop-i.invariant.2

pub loop-i-preserved : goal.loop-i-preserved
loop-i-preserved g c =
    let xs = g.L.OpList.ops c.args.list in (
      omega arith,
      look_turn xs c.loop-i.i _ c.op-op.ensures (omega arith) c.loop-i.before c.loop-i.left _ _ c.ref_len-refs.ensures.0 c.query_len-before.ensures.0 c.if-left-refs.false ∙ c.loop-i.invariant.1,
      place_turn xs c.loop-i.i _ c.op-op.ensures (omega arith) c.loop-i.left _ c.ref_len-refs.ensures.0 c.if-left-refs.false ∙ c.loop-i.invariant.2,
    )

pub returns-clause-result_value : goal.returns-clause-result_value
returns-clause-result_value g c =
    (look_done (g.L.OpList.ops c.args.list) c.loop-i.i c.loop-i.before c.loop-i.left (omega arith) ∙ c.loop-i.invariant.1, omega arith)

pub returns-clause-place_value : goal.returns-clause-place_value
returns-clause-place_value g c =
    let e = place_done (g.L.OpList.ops c.args.list) c.loop-i.i c.loop-i.left (omega arith) in omega arith
