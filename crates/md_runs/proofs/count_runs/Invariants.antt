-- Each turn takes the matches that are left, a mismatch and the number behind it.
use Rattle.md_rules.specs.InnerWalk.{columns_at}
use Rattle.md_rules.proofs.MatchLaws.{Left}
use Rattle.md_runs.proofs.count_runs.Given as goal

abbrev pub invariant-loop-left : goal.invariant-loop-left
invariant-loop-left l =
    Left l.text (columns_at l.text l.initial.at l.initial.left) l.initial.n l.initial.count l.n l.k l.at l.left l.count

abbrev pub decreases-loop-left : goal.decreases-loop-left
decreases-loop-left l =
    l.n
