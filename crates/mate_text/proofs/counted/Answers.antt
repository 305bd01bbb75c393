-- `mate_text::counted` meets its contract: the definition at the test's two answers.
use native.Mathlib.Omega.{arith}
use mir.Syntax.{w32}
use mir.Facts.{to_z_pos}
use borrow.Author.Tests.{le-leb, lt-leb}
use Rattle.mate_rules.specs.Run.{counts_as}
use Rattle.mate_text.proofs.counted.Goals as goal

pub returns-then-x-gt2147483647 : goal.returns-then-x-gt2147483647
unfolding counts_as
returns-then-x-gt2147483647 c =
    simp (lt-leb c.args.x 2147483647 c.if-x-gt2147483647.true)

pub returns : goal.returns
unfolding counts_as
returns c =
    simp (le-leb c.args.x 2147483647 c.if-x-gt2147483647.false) (to_z_pos w32 (omega arith))
