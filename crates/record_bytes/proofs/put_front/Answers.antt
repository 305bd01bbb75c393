-- Header and name as they stand, then the four numbers.
use Rattle.std.proofs.Common.{rules, ◌≡◌, ◌+◌, w32}
use mathlib.Core.Path.{refl}
use native.Mathlib.Omega.{arith}
use mir.Val.{to_z, of_z}
use Rattle.record_rules.specs.InnerPlan.{change_by}
use Rattle.record_rules.proofs.PlanLaws.{ops_left}
use Rattle.record_parts.proofs.PutLaws.{front_copied}
use Rattle.record_bytes.proofs.ByteLaws.{front_is}
use Rattle.record_bytes.proofs.put_front.Goals as goal

pub returns : goal.returns
returns c =
    let e : to_z w32 (of_z w32 c.args.p.place) ≡ c.args.p.place = search rules in
    let f = front_copied c.args.out.now c.args.rec.now _ (32 + c.u8_at.result) (omega (arith, c.requires.fits.whole)) c.copy_bytes.ensures in
    λ start. front_is c.args.rec.now c.args.out.now _ _ _ _ _ (change_by c.args.rec.now start c.args.p) (32 + c.u8_at.result) _ _ _ _ (omega arith) (omega (arith, c.requires.fits.whole))
    (simp e at c.bits32.ensures) refl (ops_left c.args.rec.now start c.args.p c.requires.fits) refl
    f c.put_u32.ensures c.put_u16.ensures c.put_u16-2.ensures c.put_u32-2.ensures
