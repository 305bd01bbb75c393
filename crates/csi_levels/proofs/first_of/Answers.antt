-- The first numbers are shifts of the largest.
use Rattle.csi_levels.proofs.Up.{first_code}
use Rattle.csi_levels.proofs.first_of.Goals as goal

pub returns : goal.returns
returns c =
    first_code c.args.level c.requires
