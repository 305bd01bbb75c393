-- Two ends of one length are compared; of two they differ.
use mathlib.Core.Path.{sym}
use Rattle.receive_rules.proofs.WalkLaws.{rest_differs}
use Rattle.receive_parts.proofs.same_rest.Goals as goal

pub returns-then-got-at : goal.returns-then-got-at
returns-then-got-at c =
    sym (rest_differs c.args.got.now c.args.rec.now c.args.at c.args.from c.if-got-at.true)
