-- From an even base on the bytes as they stand.
use mathlib.Core.Path.{ap, ◌∙◌}
use native.Mathlib.Omega.{arith}
use lib.ListN.{take, drop}
use Rattle.sam.proofs.BaseLaws.{aligned}
use Rattle.receive_rules.specs.Receiving.{same}
use Rattle.receive_parts.proofs.same_pairs.Goals as goal

pub returns-then-from-eq0 : goal.returns-then-from-eq0
returns-then-from-eq0 c =
    c.same_bytes.ensures
    ∙ ap (same (take c.args.k (drop c.args.at c.args.got.now)))
    (aligned c.args.rec.now c.args.area c.args.from c.args.k (λ i. omega (arith, c.type_inv.rec i)) c.if-from-eq0.true (omega arith))
