use mathlib.Core.Path.{◌≡◌, ap, ◌∙◌}
use mir.Syntax.{w32}
use mir.Val.{to_z, of_z}
use mir.Facts.{to_z-of_z}
use Prim.Native.Nat.{ℕ, ◌+◌, ◌%◌}
use Rattle.bin_rules.specs.Bin.{shr, low16}
use Rattle.bin_rules.proofs.Shifts.{low_add}
use borrow.Author.Rules.{rules}
use Rattle.bin.proofs.bin_at.Goals as goal

pub returns : goal.returns
returns c =
    let e : c.shifted.result ≡ shr c.args.beg c.args.k = simp (to_z-of_z c.ranges.beg) at c.shifted.ensures in
    let r : to_z w32 (of_z w32 c.shifted.result) ≡ c.shifted.result = search rules in
    ap (λ (n : ℕ). (c.args.first + n) % 65536) (c.low_bits.ensures.0 ∙ ap low16 (r ∙ e)) ∙ low_add c.args.first (shr c.args.beg c.args.k)
