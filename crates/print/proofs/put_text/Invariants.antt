-- What is left to store at i is all that is to be stored.
use Prim.Native.Nat.{◌+◌, ◌≤◌}
use mathlib.Core.Path.{◌≡◌}
use lib.ListN.{length, drop}
use lib.Seq.{sets}
use Rattle.print_rules.specs.Text.{text_of}
use Rattle.print.proofs.put_text.Given as goal

abbrev pub invariant-loop-i : goal.invariant-loop-i
invariant-loop-i g l =
    let xs = g.L.OpList.ops l.list in
    (length l.out ≡ length l.initial.out)
    × (l.at + length (text_of (drop l.i xs)) ≤ length l.initial.out)
    × (sets l.out l.at (text_of (drop l.i xs)) ≡ sets l.initial.out 0 (text_of xs))
