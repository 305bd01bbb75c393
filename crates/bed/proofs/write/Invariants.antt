-- What was written is the first part of the sizes and of the starts: each stretch that an N ends is the next block, and the open one at the end the last.
use Prim.Native.Nat.{◌≤◌}
use mathlib.Core.Path.{◌≡◌}
use lib.ListN.{length, take}
use Rattle.lists.specs.Lists.{splice}
use Rattle.bed_rules.specs.Blocks.{blocks}
use Rattle.bed_rules.specs.Bed.{sizes_of, starts_of}
use Rattle.bed_walk.proofs.PassLaws.{Left}
use Rattle.bed.proofs.write.Given as goal

abbrev pub invariant-loop-op : goal.invariant-loop-op
invariant-loop-op l =
    (l.op-index ≤ length l.ops)
    × Left l.walk l.op-index l.ops
    × (l.sizes ≡ splice l.initial.sizes 0 (take l.walk.n (sizes_of (blocks l.ops))))
    × (l.starts ≡ splice l.initial.starts 0 (take l.walk.n (starts_of (blocks l.ops))))
