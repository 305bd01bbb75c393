-- What is written and what is left make the answer.
use mathlib.Core.Path.{◌≡◌}
use lib.ListN.{length, drop}
use Rattle.lists.specs.Lists.{splice}
use Rattle.md_rules.specs.Md.{columns_of}
use Rattle.md_rules.specs.Rule.{told}
use Rattle.md_rules.specs.InnerWalk.{columns_here}
use Rattle.md_rules.proofs.PassLaws.{Passed}
use Rattle.md.proofs.write.Given as goal

abbrev pub invariant-loop-op : goal.invariant-loop-op
invariant-loop-op l =
    Passed l.ops l.text l.op-index l.s
    × (splice l.out l.s.count (told (drop l.op-index l.ops) (columns_here l.text l.s)) ≡ splice l.initial.out 0 (told l.ops (columns_of l.text)))
    × (length l.out ≡ length l.initial.out)
