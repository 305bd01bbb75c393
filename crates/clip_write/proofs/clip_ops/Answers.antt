-- A refusal is the plan's, or that of the room; the plan's ops, as written at either end, are the clipped list.
use Prim.Native.Nat.{◌+◌, ◌-◌}
use Rattle.std.specs.Prelude.{Ok, Err}
use mathlib.Core.Path.{ap, ◌∙◌}
use native.Mathlib.Omega.{arith}
use Prim.Native.Nat.{ℕ}
use Rattle.answers.proofs.Unique.{settled}
use Rattle.clip_rules.specs.InnerPlan.{PlannedIs}
use Rattle.clip_rules.proofs.AnswerLaws.{within, no_room, plan_length, done-start, done_end, unplanned}
use Rattle.std.proofs.Common.{◌≡◌, rules}
use Rattle.clip_write.proofs.clip_ops.Goals as goal

pub returns-then-out-n : goal.returns-then-out-n
returns-then-out-n g c =
    let made : PlannedIs c.args.limit (g.L.OpList.ops c.args.list) c.args.amount c.args.start (Ok c.in_ok-p.p) =
    c.in_ok-p.ensures
    in
    let l = plan_length (g.L.OpList.ops c.args.list) c.args.start made.2.1 in
    settled (within (g.L.OpList.ops c.args.list) c.args.amount c.args.start c.args.out.now made.0 ∙ no_room (g.L.OpList.ops c.args.list) c.args.amount c.args.start c.args.out.now made.1 made.2.0 (omega arith))

pub returns-then-start : goal.returns-then-start
returns-then-start g c =
    let made : PlannedIs c.args.limit (g.L.OpList.ops c.args.list) c.args.amount c.args.start (Ok c.in_ok-p.p) =
    c.in_ok-p.ensures
    in
    rw (within (g.L.OpList.ops c.args.list) c.args.amount c.args.start c.args.out.now made.0)
    (done-start (g.L.OpList.ops c.args.list) c.args.start made.2.1 c.args.out.now _ _ made.1 made.2.0 c.if-out-n.false (ap (λ (k : ℕ). c.in_ok-p.p.heads + (k - c.in_ok-p.p.skip)) c.count.ensures.value) c.if-start.true c.write_start.ensures)

pub returns : goal.returns
returns g c =
    let made : PlannedIs c.args.limit (g.L.OpList.ops c.args.list) c.args.amount c.args.start (Ok c.in_ok-p.p) =
    c.in_ok-p.ensures
    in
    rw (within (g.L.OpList.ops c.args.list) c.args.amount c.args.start c.args.out.now made.0)
    (done_end (g.L.OpList.ops c.args.list) c.args.start made.2.1 c.args.out.now _ _ made.1 made.2.0 c.if-out-n.false (ap (λ (k : ℕ). c.in_ok-p.p.heads + (k - c.in_ok-p.p.skip)) c.count.ensures.value) c.if-start.false c.write_end.ensures)

pub returns-in_err-p : goal.returns-in_err-p
returns-in_err-p g c =
    let passed : c.from_residual.result ≡ Err c.in_err-p.field-0.0 = search rules in
    rw passed (settled (unplanned c.args.limit (g.L.OpList.ops c.args.list) c.args.amount c.args.start c.args.out.now c.in_err-p.ensures))
