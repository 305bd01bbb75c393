-- The sum of the start and the span, and then the region.
use mathlib.Core.Path.{◌≡◌, ap, sym, ◌∙◌}
use Rattle.std.specs.Prelude.{Err, None, Some}
use lib.IntN.{◌+ℤ◌}
use mir.Syntax.{w32}
use mir.Facts.{to_z-of_z}
use mir.Val.{to_z, of_z}
use Rattle.signed.specs.Whole.{checked}
use Rattle.answers.specs.declared.Refusal.TheVariants.{Overflow}
use Rattle.bin_rules.specs.Bin.{bin_up_to, bin_from, span_of}
use borrow.Author.Rules.{rules}
use Rattle.bin.proofs.bin_from.Goals as goal

pub returns : goal.returns
unfolding bin_from bin_up_to
returns c =
    let e : to_z w32 (of_z w32 c.args.beg.0) ≡ c.args.beg.0 = search rules in
    let f : to_z w32 (of_z w32 c.span_of.result) ≡ c.span_of.result = search rules in
    let g : c.span_of.result ≡ span_of c.args.n = simp (to_z-of_z c.ranges.n) at c.span_of.ensures in
    let summed : c.checked_add.result ≡ checked (c.args.beg.0 +ℤ span_of c.args.n) = simp (e, f ∙ g) at c.checked_add.ensures in
    let found : c.checked_add.result ≡ Some c.in_ok-end.end = search rules in
    let z : to_z w32 (of_z w32 c.in_ok-end.end) ≡ c.in_ok-end.end = search rules in
    (simp z at c.reg2bin.ensures) ∙ ap (bin_up_to c.args.beg.0) (sym found ∙ summed)

pub returns-in_err-end : goal.returns-in_err-end
unfolding bin_from bin_up_to
returns-in_err-end c =
    let e : to_z w32 (of_z w32 c.args.beg.0) ≡ c.args.beg.0 = search rules in
    let f : to_z w32 (of_z w32 c.span_of.result) ≡ c.span_of.result = search rules in
    let g : c.span_of.result ≡ span_of c.args.n = simp (to_z-of_z c.ranges.n) at c.span_of.ensures in
    let summed : c.checked_add.result ≡ checked (c.args.beg.0 +ℤ span_of c.args.n) = simp (e, f ∙ g) at c.checked_add.ensures in
    let found : c.checked_add.result ≡ None = search rules in
    let passed : c.from_residual.result ≡ Err Overflow = search rules in
    passed ∙ ap (bin_up_to c.args.beg.0) (sym found ∙ summed)
