-- What the walk has passed stands before what it sees in the rest: each op holds the reference base, or is passed.
use Rattle.std.proofs.Common.{◌≡◌, ◌+◌, ◌*◌, ◌≤◌, drop}
use Rattle.sam.specs.Columns.{past}
use Rattle.lookup_rules.specs.Lookup.{look}
use Rattle.lookup_rules.specs.Examined.{place_of}
use Rattle.lookup.proofs.look_at.Given as goal

abbrev pub invariant-loop-i : goal.invariant-loop-i
invariant-loop-i g l =
    let xs = g.L.OpList.ops l.list in
    (l.before ≤ 268435456 * l.i) × (past l.before (look (drop l.i xs) l.left) ≡ look xs l.k) × (l.i + place_of (drop l.i xs) l.left ≡ place_of xs l.k)
