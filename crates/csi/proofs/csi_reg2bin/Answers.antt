use mathlib.Core.Path.{◌≡◌, sym, ap, ◌∙◌}
use Rattle.std.specs.Prelude.{Err, Ok}
use mir.Facts.{to_z-of_z}
use Rattle.std.proofs.Common.{rules}
use Rattle.csi_rules.specs.Csi.{region_of, bin_in, csi_bin}
use Rattle.csi.proofs.Calls.{found}
use Rattle.csi.proofs.csi_reg2bin.Goals as goal

pub bin_up-requires : goal.bin_up-requires
bin_up-requires c =
    found c.args.beg c.args.end _ _ _ (sym (simp (to_z-of_z c.ranges.beg, to_z-of_z c.ranges.end) at c.region_of.ensures) ∙ c.in_ok-first.was)

pub returns-in_err-first : goal.returns-in_err-first
unfolding csi_bin
returns-in_err-first c =
    let told : c.region_of.result ≡ region_of c.args.beg c.args.end c.args.min_shift c.args.depth =
    simp (to_z-of_z c.ranges.beg, to_z-of_z c.ranges.end) at c.region_of.ensures
    in
    let passed : c.from_residual.result ≡ Err c.in_err-first.field-0.0 = search rules in
    passed ∙ ap (bin_in c.args.min_shift c.args.depth) (sym c.in_err-first.was ∙ told)

pub returns : goal.returns
unfolding csi_bin
returns c =
    let told : c.region_of.result ≡ region_of c.args.beg c.args.end c.args.min_shift c.args.depth =
    simp (to_z-of_z c.ranges.beg, to_z-of_z c.ranges.end) at c.region_of.ensures
    in
    ap Ok c.bin_up.ensures ∙ ap (bin_in c.args.min_shift c.args.depth) (sym c.in_ok-first.was ∙ told)
