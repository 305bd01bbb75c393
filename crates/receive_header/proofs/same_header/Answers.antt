-- Front, bin and back.
use mathlib.Core.Path.{◌≡◌, refl}
use mir.Syntax.{w32}
use mir.Val.{to_z, of_z}
use native.Mathlib.Omega.{arith}
use Rattle.record_rules.specs.InnerPlan.{change_by}
use Rattle.receive_rules.proofs.HeaderLaws.{whole_header}
use Rattle.record_rules.proofs.PlanLaws.{ops_left}
use borrow.Author.Rules.{rules}
use Rattle.receive_header.proofs.same_header.Goals as goal

pub returns : goal.returns
returns c =
    let z : to_z w32 (of_z w32 c.args.p.place) ≡ c.args.p.place = search rules in
    λ start. rw (c.same_front-front.ensures, c.same_bin-bin.ensures, c.same_back-back.ensures)
    (whole_header c.args.got.now c.args.rec.now (λ i. omega (arith, c.type_inv.got i)) (omega arith) (omega (arith, c.requires.fits.whole)) (change_by c.args.rec.now start c.args.p)
    c.bits32.result c.args.p.bin c.args.p.n c.args.p.len (simp z at c.bits32.ensures) refl (ops_left c.args.rec.now start c.args.p c.requires.fits) refl)
