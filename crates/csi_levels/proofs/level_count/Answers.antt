-- The last place is on the level at or behind the first.
use mathlib.Core.Path.{refl}
use native.Mathlib.Omega.{arith}
use Rattle.csi_levels.proofs.Up.{last_small}
use Rattle.csi_levels.proofs.level_count.Goals as goal

pub returns : goal.returns
returns c =
    (refl, omega (arith, last_small c.args.left c.args.shift c.args.beg c.args.last c.requires))
