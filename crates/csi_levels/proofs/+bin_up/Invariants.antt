-- The levels that are left fall.
use Rattle.csi_levels.proofs.+bin_up.Given as goal

abbrev pub decreases-bin_up : goal.decreases-bin_up
decreases-bin_up l = l.left
