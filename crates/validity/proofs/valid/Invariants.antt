-- What the ops from i on are to the stage is what all are to the rules.
use Rattle.std.proofs.Common.{◌≡◌, drop}
use Rattle.text_rules.specs.Valid.{valid_mapped}
use Rattle.validity.specs.InnerStages.{accept_of, stage_after}
use Rattle.validity.proofs.valid.Given as goal

abbrev pub invariant-loop-i : goal.invariant-loop-i
invariant-loop-i g l =
    let xs = g.L.OpList.ops l.list in accept_of (stage_after l.p (drop l.i xs)) ≡ valid_mapped xs
