-- Bins at the edges: a region that starts below 0, and an end that has no number before it. Each computes.
use mathlib.Core.Path.{◌≡◌, refl}
use Rattle.std.specs.Prelude.{Err, Ok}
use lib.IntN.{pos, negsuc}
use Rattle.signed.specs.Whole.{checked, side_of}
use Rattle.answers.specs.declared.Refusal.TheVariants.{Overflow}
use Rattle.signed.specs.Equal.{eqℤ}
use Rattle.bin_rules.specs.Bin.{low16, first_agreed, bin_to, reg2bin}

-- the unmapped bin of the specification, reg2bin(-1, 0)
pub unmapped : reg2bin (negsuc 0) (pos 0) ≡ Ok 4680
unfolding checked side_of eqℤ low16 first_agreed bin_to reg2bin
unmapped = refl

pub overflows : reg2bin (pos 0) (negsuc 2147483647) ≡ Err Overflow
unfolding checked side_of bin_to reg2bin
overflows = refl
