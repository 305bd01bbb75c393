use Rattle.std.proofs.Common.{◌≡◌, pos, ◌+ℤ◌, arith, to_z-of_z, w64, SFits}
use mir.Facts.{sfits_widen}
use Rattle.signed.proofs.Halves.{plus, sfits64, top32, low32, abs_fact, raise_fact}
use Rattle.signed.proofs.raise.Goals as goal

pub returns : goal.returns
returns c =
    let x = c.args.x in
    let e : c.from.result ≡ x = simp (to_z-of_z c.ranges.x) at c.from.ensures in
    let p = plus x (pos 2147483648) in
    let t = top32 x c.ranges.x in
    let l = low32 x c.ranges.x in
    let r = raise_fact x c.ranges.x in
    let a = abs_fact (x +ℤ pos 2147483648) (omega arith) in
    let w : SFits w64 x = sfits_widen tt c.ranges.x in
    let s : SFits w64 (x +ℤ pos 2147483648) = sfits64 (x +ℤ pos 2147483648) (omega arith) (omega arith) in
    simp (e, to_z-of_z w, to_z-of_z s) (omega arith, omega arith)
