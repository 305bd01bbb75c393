use mathlib.Core.Path.{◌≡◌, ap, sym, ◌∙◌}
use Rattle.std.specs.Prelude.{Err, None, Ok, Some}
use mir.Syntax.{w32}
use mir.Val.{to_z, of_z}
use mir.Facts.{to_z-of_z}
use lib.IntN.{pos, ◌-ℤ◌}
use Rattle.signed.specs.Whole.{checked}
use Rattle.answers.specs.declared.Refusal.TheVariants.{Overflow}
use Rattle.bin_rules.specs.Bin.{bin_to, reg2bin}
use borrow.Author.Rules.{rules}
use Rattle.bin.proofs.reg2bin.Goals as goal

pub returns : goal.returns
unfolding reg2bin bin_to
returns c =
    let told : c.checked_sub.result ≡ checked (c.args.end -ℤ pos 1) =
    simp (to_z-of_z c.ranges.end) at c.checked_sub.ensures
    in
    let found : c.checked_sub.result ≡ Some c.in_ok-last.last = search rules in
    let r : to_z w32 (of_z w32 c.in_ok-last.last) ≡ c.in_ok-last.last = search rules in
    let e : to_z w32 (of_z w32 c.args.beg.0) ≡ c.args.beg.0 = search rules in
    simp (sym told ∙ found) (ap Ok (simp (e, r) at c.bin_of.ensures))

pub returns-in_err-last : goal.returns-in_err-last
unfolding reg2bin bin_to
returns-in_err-last c =
    let told : c.checked_sub.result ≡ checked (c.args.end -ℤ pos 1) =
    simp (to_z-of_z c.ranges.end) at c.checked_sub.ensures
    in
    let found : c.checked_sub.result ≡ None = search rules in
    let passed : c.from_residual.result ≡ Err Overflow = search rules in
    passed ∙ ap (bin_to c.args.beg.0) (sym found ∙ told)
