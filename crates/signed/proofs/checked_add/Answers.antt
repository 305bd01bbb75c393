use Rattle.std.proofs.Common.{◌+ℤ◌, to_z-of_z}
use Rattle.signed.proofs.Ranges.{checked_is}
use Rattle.signed.proofs.checked_add.Goals as goal

pub returns : goal.returns
returns c = checked_is (c.args.a +ℤ c.args.b) _ (simp (to_z-of_z c.ranges.a, to_z-of_z c.ranges.b) at c.checked_add.ensures)
