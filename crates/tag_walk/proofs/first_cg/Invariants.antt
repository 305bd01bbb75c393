-- What the tags from the place reached come to, all of them come to.
use Prim.Native.Nat.{◌-◌, ◌≤◌}
use mathlib.Core.Path.{◌≡◌}
use lib.ListN.{length, drop}
use Rattle.sam.specs.Tags.{tags_of}
use Rattle.tag_rules.specs.Long.{first_cg}
use Rattle.tag_walk.proofs.first_cg.Given as goal

abbrev pub invariant-loop-at : goal.invariant-loop-at
invariant-loop-at l =
    (l.at ≤ length l.b) × (first_cg l.without l.at (tags_of (drop l.at l.b)) ≡ first_cg l.without l.from (tags_of (drop l.from l.b)))

abbrev pub decreases-loop-at : goal.decreases-loop-at
decreases-loop-at l =
    length l.b - l.at
