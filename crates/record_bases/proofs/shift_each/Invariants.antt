-- The first bytes are written.
use Rattle.std.proofs.Common.{◌≡◌, length, take}
use Rattle.record_bases.proofs.PackLaws.{shifted}
use Rattle.record_bases.proofs.shift_each.Given as goal

abbrev pub invariant-loop-i : goal.invariant-loop-i
invariant-loop-i l = take l.i l.out ≡ take l.i (shifted l.bases (length l.initial.out))
