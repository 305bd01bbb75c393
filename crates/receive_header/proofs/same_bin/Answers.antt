-- 0, or the bin.
use mathlib.Core.Path.{◌∙◌}
use borrow.Author.Tests.{eq-eqb}
use native.Mathlib.Omega.{arith}
use Rattle.receive_rules.proofs.HeaderLaws.{no_bin, a_bin}
use Rattle.receive_header.proofs.same_bin.Goals as goal

pub returns-then-stored-eq0 : goal.returns-then-stored-eq0
returns-then-stored-eq0 c =
    eq-eqb c.u16_at-stored.result 0 c.if-stored-eq0.true
    ∙ no_bin c.args.got.now c.args.got.now (λ i. omega (arith, c.type_inv.got i)) (omega arith) (omega arith) c.args.bin c.u16_at-stored.result c.u16_at-stored.ensures.0
    c.if-stored-eq0.true

pub returns-else-stored-eq0 : goal.returns-else-stored-eq0
returns-else-stored-eq0 c =
    a_bin c.args.got.now c.args.got.now (λ i. omega (arith, c.type_inv.got i)) (omega arith) (omega arith) c.args.bin c.u16_at-stored.result c.u16_at-stored.ensures.0
    c.if-stored-eq0.false
