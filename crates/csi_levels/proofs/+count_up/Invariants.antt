-- The levels that are left fall.
use Rattle.csi_levels.proofs.+count_up.Given as goal

abbrev pub decreases-count_up : goal.decreases-count_up
decreases-count_up l = l.left
