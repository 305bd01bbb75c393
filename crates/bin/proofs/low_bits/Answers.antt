use native.Mathlib.Omega.{arith}
use mathlib.Core.Path.{ap, ◌∙◌}
use mir.Facts.{to_z-of_z}
use Prim.Native.Nat.{ℕ, ◌%◌}
use Rattle.bin_rules.proofs.Shifts.{low_raised}
use Rattle.bin.proofs.low_bits.Goals as goal

pub returns : goal.returns
returns c =
    (ap (λ (n : ℕ). n % 65536) (simp (to_z-of_z c.ranges.x) at c.raise.ensures.0) ∙ low_raised c.args.x c.ranges.x, omega arith)
