-- The levels that are left fall.
use Rattle.csi_levels.proofs.+put_up.Given as goal

abbrev pub decreases-put_up : goal.decreases-put_up
decreases-put_up l = l.left
