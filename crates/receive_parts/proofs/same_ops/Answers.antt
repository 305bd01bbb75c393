-- Heads, then bytes as they stand; at the end bytes as they stand, then heads, in reverse.
use Rattle.std.proofs.Common.{ℕ, List, ◌+◌, ◌-◌, ◌*◌, [], ◌∷◌, take, drop}
use mathlib.Core.Path.{ap, ◌∙◌}
use mathlib.Core.Bool.{Bool, ◌&&◌}
use native.Mathlib.Omega.{arith}
use lib.Seq.{length-take-le}
use Rattle.sam.specs.Record.{ops_in, op_bytes}
use Rattle.clip_write.proofs.WriteLaws.{few_reverse, two_reverse}
use Rattle.record_rules.proofs.PlanLaws.{planned_start, planned_end}
use Rattle.receive_rules.specs.Receiving.{same}
use Rattle.receive_rules.proofs.OpLaws.{ops_start, ops_end}
use Rattle.receive_parts.proofs.same_ops.Goals as goal

pub returns-then-start : goal.returns-then-start
returns-then-start c =
    let p = c.args.p in
    let vs = take p.heads (p.first ∷ (p.second ∷ [])) in
    ap (λ (t : Bool). t && c.same_bytes.result) c.same_heads.ensures
    ∙ ap (λ (t : Bool). same (take (4 * p.heads) (drop c.args.at c.args.got.now)) (op_bytes vs) && t) c.same_bytes.ensures
    ∙ ops_start c.args.got.now c.args.rec.now c.args.at c.args.area c.args.n p.skip p.heads vs (λ i. omega (arith, c.type_inv.rec i)) (omega arith) (omega arith)
    (omega arith) (length-take-le p.heads (p.first ∷ (p.second ∷ [])) (omega arith))
    ∙ ap (λ (l : List ℕ). same (take (4 * (p.heads + (c.args.n - p.skip))) (drop c.args.at c.args.got.now)) (op_bytes l)) (planned_start c.args.start (ops_in c.args.rec.now c.args.area c.args.n) p c.if-start.true)

pub returns-then-p-eq2 : goal.returns-then-p-eq2
returns-then-p-eq2 c =
    let p = c.args.p in
    let kept = 4 * (c.args.n - p.skip) in
    let vs = take p.heads (p.first ∷ (p.second ∷ [])) in
    let ws = take p.heads (p.second ∷ (p.first ∷ [])) in
    ap (λ (t : Bool). t && c.same_heads-then-p-eq2.result) c.same_bytes-rest.ensures
    ∙ ap (λ (t : Bool). same (take kept (drop c.args.at c.args.got.now)) (take kept (drop c.args.area c.args.rec.now)) && t) c.same_heads-then-p-eq2.ensures
    ∙ ops_end c.args.got.now c.args.rec.now c.args.at c.args.area c.args.n p.skip p.heads vs (λ i. omega (arith, c.type_inv.rec i)) (omega arith) (omega arith)
    (omega arith) ws (two_reverse p.heads p.first p.second (omega arith))
    ∙ ap (λ (l : List ℕ). same (take (4 * (p.heads + (c.args.n - p.skip))) (drop c.args.at c.args.got.now)) (op_bytes l)) (planned_end c.args.start (ops_in c.args.rec.now c.args.area c.args.n) p c.if-start.false)

pub returns : goal.returns
returns c =
    let p = c.args.p in
    let kept = 4 * (c.args.n - p.skip) in
    let vs = take p.heads (p.first ∷ (p.second ∷ [])) in
    let ws = take p.heads (p.first ∷ (p.second ∷ [])) in
    ap (λ (t : Bool). t && c.same_heads-2.result) c.same_bytes-rest.ensures
    ∙ ap (λ (t : Bool). same (take kept (drop c.args.at c.args.got.now)) (take kept (drop c.args.area c.args.rec.now)) && t) c.same_heads-2.ensures
    ∙ ops_end c.args.got.now c.args.rec.now c.args.at c.args.area c.args.n p.skip p.heads vs (λ i. omega (arith, c.type_inv.rec i)) (omega arith) (omega arith)
    (omega arith) ws (few_reverse p.heads p.first p.second (omega arith))
    ∙ ap (λ (l : List ℕ). same (take (4 * (p.heads + (c.args.n - p.skip))) (drop c.args.at c.args.got.now)) (op_bytes l)) (planned_end c.args.start (ops_in c.args.rec.now c.args.area c.args.n) p c.if-start.false)
