use mathlib.Core.Path.{◌≡◌, sym, ap, ◌∙◌}
use Rattle.std.specs.Prelude.{Err}
use Rattle.std.proofs.Common.{rules}
use native.Mathlib.Omega.{arith}
use lib.ListN.{length}
use mir.Facts.{to_z-of_z}
use Rattle.answers.proofs.Unique.{settled}
use Rattle.csi_rules.specs.Csi.{region_of, bins_up, bins_in, csi_bins}
use Rattle.csi.proofs.Calls.{found, filled_none, filled_all}
use Rattle.csi.proofs.csi_reg2bins.Goals as goal

pub count_up-n-requires : goal.count_up-n-requires
count_up-n-requires c =
    found c.args.beg c.args.end _ _ _ (sym (simp (to_z-of_z c.ranges.beg, to_z-of_z c.ranges.end) at c.region_of.ensures) ∙ c.in_ok-first.was)

pub put_up-requires-clause-sound : goal.put_up-requires-clause-sound
put_up-requires-clause-sound c =
    found c.args.beg c.args.end _ _ _ (sym (simp (to_z-of_z c.ranges.beg, to_z-of_z c.ranges.end) at c.region_of.ensures) ∙ c.in_ok-first.was)

pub returns-in_err-first : goal.returns-in_err-first
unfolding csi_bins
returns-in_err-first c =
    let told : c.region_of.result ≡ region_of c.args.beg c.args.end c.args.min_shift c.args.depth =
    simp (to_z-of_z c.ranges.beg, to_z-of_z c.ranges.end) at c.region_of.ensures
    in
    let passed : c.from_residual.result ≡ Err c.in_err-first.field-0.0 = search rules in
    rw passed (settled (ap (bins_in c.args.min_shift c.args.depth c.args.out.now) (sym told ∙ c.in_err-first.was)))

pub returns-then-out-n : goal.returns-then-out-n
unfolding csi_bins
returns-then-out-n c =
    let told : c.region_of.result ≡ region_of c.args.beg c.args.end c.args.min_shift c.args.depth =
    simp (to_z-of_z c.ranges.beg, to_z-of_z c.ranges.end) at c.region_of.ensures
    in
    let bins = bins_up c.args.depth c.args.min_shift c.in_ok-first.field-0.first c.in_ok-first.field-0.last in
    let e : c.count_up-n.result ≡ length bins = c.count_up-n.ensures.0 in
    settled (ap (bins_in c.args.min_shift c.args.depth c.args.out.now) (sym told ∙ c.in_ok-first.was) ∙ filled_none bins c.args.out.now (omega arith))

pub returns : goal.returns
unfolding csi_bins
returns c =
    let told : c.region_of.result ≡ region_of c.args.beg c.args.end c.args.min_shift c.args.depth =
    simp (to_z-of_z c.ranges.beg, to_z-of_z c.ranges.end) at c.region_of.ensures
    in
    let bins = bins_up c.args.depth c.args.min_shift c.in_ok-first.field-0.first c.in_ok-first.field-0.last in
    let e : c.count_up-n.result ≡ length bins = c.count_up-n.ensures.0 in
    settled (ap (bins_in c.args.min_shift c.args.depth c.args.out.now) (sym told ∙ c.in_ok-first.was) ∙ filled_all bins c.args.out.now _ _ (omega arith) e c.put_up.ensures.1)
