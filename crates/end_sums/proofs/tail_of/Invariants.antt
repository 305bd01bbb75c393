-- Whatever ops are left, the walk comes to the same as from its start.
use Rattle.std.proofs.Common.{◌≡◌, ◌*◌, ◌≤◌, drop}
use Rattle.ends_rules.specs.InnerTails.{met}
use Rattle.ends_rules.proofs.TailLaws.{fresh}
use Rattle.end_sums.proofs.tail_of.Given as goal

abbrev pub invariant-loop-i : goal.invariant-loop-i
invariant-loop-i g l =
    let xs = g.L.OpList.ops l.list in
    (l.w.refs ≤ 268435456 * l.i)
    × (l.w.most ≤ 268435456 * l.i)
    × (l.w.clips ≤ l.w.most)
    × (met l.w (drop l.i xs) ≡ met fresh xs)
