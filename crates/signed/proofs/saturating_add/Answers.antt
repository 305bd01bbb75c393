use Rattle.std.proofs.Common.{w32, SFits, ◌+ℤ◌, ◌∙◌, to_z-of_z, rules}
use Rattle.signed.proofs.Ranges.{clamp_is}
use Rattle.signed.proofs.saturating_add.Goals as goal

pub returns : goal.returns
returns c =
    let f : SFits w32 c.saturating_add.result = search rules in
    to_z-of_z f ∙ (simp (to_z-of_z c.ranges.a, to_z-of_z c.ranges.b) at c.saturating_add.ensures) ∙ clamp_is (c.args.a +ℤ c.args.b)
