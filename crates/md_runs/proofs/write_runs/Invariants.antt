-- The runs that are written and those that are left make the M's.
use mathlib.Core.Path.{◌≡◌}
use lib.ListN.{length, take}
use Rattle.lists.specs.Lists.{splice}
use Rattle.md_rules.specs.Rule.{runs}
use Rattle.md_rules.specs.InnerWalk.{columns_at}
use Rattle.md_rules.proofs.RunLaws.{runs_left}
use Rattle.md_rules.proofs.MatchLaws.{Left}
use Rattle.md_runs.proofs.write_runs.Given as goal

abbrev pub invariant-loop-left : goal.invariant-loop-left
invariant-loop-left l =
    Left l.text (columns_at l.text l.initial.at l.initial.left) l.initial.n l.initial.place l.n l.k l.at l.left l.place
    × (splice l.out l.place (runs_left l.k l.n (columns_at l.text l.at l.left)) ≡ splice l.initial.out l.initial.place (runs (take l.initial.n (columns_at l.text l.initial.at l.initial.left))))
    × (length l.out ≡ length l.initial.out)

abbrev pub decreases-loop-left : goal.decreases-loop-left
decreases-loop-left l =
    l.n
