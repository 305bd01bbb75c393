-- None, one or two.
use native.Mathlib.Omega.{arith}
use Rattle.receive_rules.proofs.OpLaws.{no-heads, first-differs, one-head, two-heads}
use Rattle.receive_parts.proofs.same_heads.Goals as goal

pub returns-then-heads-eq0 : goal.returns-then-heads-eq0
returns-then-heads-eq0 c =
    no-heads c.args.got.now c.args.at c.args.a c.args.b (λ i. omega (arith, c.type_inv.got i)) (omega arith) (omega arith) c.args.heads (omega arith) c.if-heads-eq0.true

pub returns-then-u32_at-a : goal.returns-then-u32_at-a
returns-then-u32_at-a c =
    first-differs c.args.got.now c.args.at c.args.a c.args.b (λ i. omega (arith, c.type_inv.got i)) (omega arith) (omega arith) c.args.heads (omega arith)
    c.u32_at.result c.u32_at.ensures c.if-heads-eq0.false (omega arith) c.if-u32_at-a.true

pub returns-then-heads-eq1 : goal.returns-then-heads-eq1
returns-then-heads-eq1 c =
    one-head c.args.got.now c.args.at c.args.a c.args.b (λ i. omega (arith, c.type_inv.got i)) (omega arith) (omega arith) c.args.heads (omega arith)
    c.u32_at.result c.u32_at.ensures (omega arith) c.if-heads-eq1.true

pub returns : goal.returns
returns c =
    two-heads c.args.got.now c.args.at c.args.a c.args.b (λ i. omega (arith, c.type_inv.got i)) (omega arith) (omega arith) c.args.heads (omega arith)
    c.u32_at.result c.u32_at-2.result c.u32_at.ensures (omega arith) c.u32_at-2.ensures (omega arith)
