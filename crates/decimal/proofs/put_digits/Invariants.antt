-- The digits that are left and the number that is left are stored as all digits of the number.
use Rattle.std.proofs.Common.{◌≡◌, ◌≤◌, ◌-◌}
use Rattle.std.proofs.lemmas.List.Edits.{sets}
use Rattle.decimal.specs.Inner.{last_digits}
use Rattle.decimal.proofs.put_digits.Given as goal

abbrev pub invariant-loop-i : goal.invariant-loop-i
invariant-loop-i l = (l.at ≤ l.i) × (sets l.out l.at (last_digits (l.i - l.at) l.rest) ≡ sets l.fn.out l.at (last_digits l.k l.n))
