-- The list's length by its cases.
use native.Mathlib.Omega.{arith}
use native.Mathlib.Nat.{pos_of_ne-zero}
use Prim.Native.Nat.{◌<◌}
use Rattle.csi_levels.proofs.Listing.{count_none, count_more}
use Rattle.csi_levels.proofs.+count_up.Goals as goal

pub returns-then-left-eq0 : goal.returns-then-left-eq0
returns-then-left-eq0 t c = (count_none _ _ _ _ c.if-left-eq0.true, omega arith)

pub returns : goal.returns
returns t c =
    let a = c.args in
    let h : 0 < a.left = pos_of_ne-zero c.if-left-eq0.false in
    let e = count_more a.shift a.beg a.last a.left h in
    let p = c.count_up.ensures in
    (omega arith, omega arith)
