-- The rule by its cases.
use native.Mathlib.Nat.{pos_of_ne-zero}
use mathlib.Core.Path.{◌∙◌}
use Rattle.csi_levels.proofs.Up.{none_left, agreed, differ}
use Rattle.csi_levels.proofs.+bin_up.Goals as goal

pub returns-then-left-eq0 : goal.returns-then-left-eq0
returns-then-left-eq0 t c = none_left _ _ _ _ c.if-left-eq0.true

pub returns-then-beg-shift : goal.returns-then-beg-shift
returns-then-beg-shift t c =
    c.bin_at.ensures.0 ∙ agreed c.args.shift c.args.beg c.args.last c.args.left (pos_of_ne-zero c.if-left-eq0.false) c.if-beg-shift.true

pub returns : goal.returns
returns t c =
    c.bin_up.ensures ∙ differ c.args.shift c.args.beg c.args.last c.args.left (pos_of_ne-zero c.if-left-eq0.false) c.if-beg-shift.false
