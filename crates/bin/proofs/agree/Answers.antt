-- Equal bits of the two shifts are equal numbers.
use mathlib.Core.Path.{◌≡◌}
use mir.Facts.{to_z-of_z}
use Rattle.bin_rules.specs.Bin.{shr}
use Rattle.signed.proofs.EqualLaws.{bits_eq}
use Rattle.bin_rules.proofs.Shifts.{shr-fits}
use Rattle.bin.proofs.agree.Goals as goal

pub returns : goal.returns
returns c =
    let a = shr-fits c.args.beg c.args.k c.ranges.beg in
    let b = shr-fits c.args.last c.args.k c.ranges.last in
    let e : c.shifted.result ≡ shr c.args.beg c.args.k = simp (to_z-of_z c.ranges.beg) at c.shifted.ensures in
    let f : c.shifted-2.result ≡ shr c.args.last c.args.k = simp (to_z-of_z c.ranges.last) at c.shifted-2.ensures in
    simp (e, f) (bits_eq (shr c.args.beg c.args.k) (shr c.args.last c.args.k) a b)
