-- The two steps are the definition's.
use mathlib.Core.Path.{◌≡◌, ap, ◌∙◌}
use lib.IntN.{pos, ◌+ℤ◌, ◌-ℤ◌}
use Rattle.signed.specs.Whole.{clamp32}
use Rattle.signed.proofs.Ranges.{clamp_in}
use Rattle.overhang_rules.specs.Overhang.{end_at}
use native.Mathlib.Omega.{arith}
use Rattle.overhang_places.proofs.alignment_end.Goals as goal

pub returns : goal.returns
unfolding end_at
returns c =
    let one : clamp32 (pos 1) ≡ pos 1 = clamp_in (pos 1) (omega arith) (omega arith) in
    let e = c.ahead.ensures ∙ ap (λ z. clamp32 (c.args.p.0 -ℤ z)) one in
    c.after.ensures ∙ ap (λ z. clamp32 (z +ℤ clamp32 (pos c.args.n))) e
