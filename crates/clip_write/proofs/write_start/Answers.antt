-- The ops put in place and the ops copied behind them are two parts of one list.
use Prim.Native.Nat.{◌-◌}
use mathlib.Core.Path.{ap}
use native.Mathlib.Omega.{arith}
use Rattle.clip_write.proofs.WriteLaws.{front_is}
use Rattle.clip_write.proofs.write_start.Goals as goal

pub returns : goal.returns
returns g c =
    front_is c.args.out.now c.put.new.out c.copy.new.out (g.L.OpList.ops c.args.list) c.args.p.skip _ c.args.p.heads c.args.p.first c.args.p.second
    (ap (λ m. m - c.args.p.skip) c.count.ensures.value) (omega arith) (omega arith) c.put.ensures c.copy.ensures
