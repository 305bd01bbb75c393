-- The first bytes are made.
use Rattle.std.proofs.Common.{◌≡◌, length, take, drop}
use Rattle.record_bases.proofs.PackLaws.{shifted}
use Rattle.record_bases.proofs.shift_sixteen.Given as goal

abbrev pub invariant-loop-i : goal.invariant-loop-i
invariant-loop-i l = (length l.held ≡ 16) × (take l.i l.held ≡ take l.i (drop l.at (shifted l.bases (length l.out))))
