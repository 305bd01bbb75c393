-- Heads, then bytes as they stand; at the end bytes as they stand, then heads, in reverse.
use Rattle.std.proofs.Common.{◌+◌, ◌-◌, ◌*◌, [], ◌∷◌, take, ℕ, List}
use mathlib.Core.Path.{ap, ◌∙◌}
use Rattle.lists.specs.Lists.{splice}
use Rattle.sam.specs.Record.{ops_in, op_bytes}
use native.Mathlib.Omega.{arith}
use lib.Seq.{length-take-le}
use Rattle.clip_write.proofs.WriteLaws.{few_reverse, two_reverse}
use Rattle.record_parts.proofs.PutLaws.{part_copied}
use Rattle.record_rules.proofs.PlanLaws.{planned_start, planned_end}
use Rattle.record_ops.proofs.OpLaws.{ops_start, ops_end}
use Rattle.record_ops.proofs.put_ops.Goals as goal

pub returns-then-start : goal.returns-then-start
returns-then-start c =
    let p = c.args.p in
    let kept = 4 * (c.args.n - p.skip) in
    ops_start c.args.rec.now c.args.out.now _ _ c.args.area c.args.n p.skip c.args.at (take p.heads (p.first ∷ (p.second ∷ [])))
    (λ i. omega (arith, c.type_inv.rec i)) (omega arith) (omega arith)
    p.heads (length-take-le p.heads (p.first ∷ (p.second ∷ [])) (omega arith)) (omega arith) c.put_heads.ensures
    (part_copied _ c.args.rec.now _ (c.args.at + 4 * p.heads) (c.args.area + 4 * p.skip) kept _ _ (omega arith) (omega arith) (omega arith) c.copy_bytes.ensures)
    ∙ ap (λ (l : List ℕ). splice c.args.out.now c.args.at (op_bytes l)) (planned_start c.args.start (ops_in c.args.rec.now c.args.area c.args.n) p c.if-start.true)

pub returns-then-p-eq2 : goal.returns-then-p-eq2
returns-then-p-eq2 c =
    let p = c.args.p in
    let kept = 4 * (c.args.n - p.skip) in
    ops_end c.args.rec.now c.args.out.now _ _ c.args.area c.args.n p.skip c.args.at (take p.heads (p.first ∷ (p.second ∷ [])))
    (λ i. omega (arith, c.type_inv.rec i)) (omega arith) (omega arith)
    (take p.heads (p.second ∷ (p.first ∷ []))) (two_reverse p.heads p.first p.second (omega arith)) (omega arith)
    (part_copied _ c.args.rec.now _ c.args.at c.args.area kept _ _ (omega arith) (omega arith) (omega arith) c.copy_bytes-2.ensures) c.put_heads-then-p-eq2.ensures
    ∙ ap (λ (l : List ℕ). splice c.args.out.now c.args.at (op_bytes l)) (planned_end c.args.start (ops_in c.args.rec.now c.args.area c.args.n) p c.if-start.false)

pub returns-else-p-eq2 : goal.returns-else-p-eq2
returns-else-p-eq2 c =
    let p = c.args.p in
    let kept = 4 * (c.args.n - p.skip) in
    ops_end c.args.rec.now c.args.out.now _ _ c.args.area c.args.n p.skip c.args.at (take p.heads (p.first ∷ (p.second ∷ [])))
    (λ i. omega (arith, c.type_inv.rec i)) (omega arith) (omega arith)
    (take p.heads (p.first ∷ (p.second ∷ []))) (few_reverse p.heads p.first p.second (omega arith)) (omega arith)
    (part_copied _ c.args.rec.now _ c.args.at c.args.area kept _ _ (omega arith) (omega arith) (omega arith) c.copy_bytes-2.ensures) c.put_heads-else-p-eq2.ensures
    ∙ ap (λ (l : List ℕ). splice c.args.out.now c.args.at (op_bytes l)) (planned_end c.args.start (ops_in c.args.rec.now c.args.area c.args.n) p c.if-start.false)
