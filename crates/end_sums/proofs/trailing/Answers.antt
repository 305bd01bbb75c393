-- By the test: the greatest run is above the range of an i32, or both sums are within it.
use mathlib.Core.Path.{ap}
use Rattle.std.specs.Prelude.{Some}
use native.Mathlib.Omega.{arith}
use lib.IntN.{pos}
use mir.Syntax.{w32}
use mir.Facts.{to_z_pos}
use Rattle.signed.proofs.Ranges.{checked_in, checked_above}
use Rattle.end_sums.proofs.trailing.Goals as goal

pub returns-then-most-gt2147483647 : goal.returns-then-most-gt2147483647
returns-then-most-gt2147483647 c =
    simp (checked_above (pos c.args.most) (omega arith))

pub returns : goal.returns
returns c =
    simp (checked_in (pos c.args.most) (omega arith) (omega arith)) (ap Some (to_z_pos w32 (omega arith)))
