-- Whether two signed numbers are equal, as a test.
use Rattle.std.specs.Prelude.{Bool, false, ℤ, pos, negsuc, ◌==◌}

unfoldable pub eqℤ : ℤ → ℤ → Bool
eqℤ (pos a) (pos b) = a == b
eqℤ (pos a) (negsuc b) = false
eqℤ (negsuc a) (pos b) = false
eqℤ (negsuc a) (negsuc b) = a == b
