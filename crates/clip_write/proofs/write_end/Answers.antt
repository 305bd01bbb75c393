-- The ops copied and the ops put behind them, in reverse, are the facing list's two parts from the other end.
use Prim.Native.Nat.{◌-◌}
use mathlib.Core.Path.{ap}
use mathlib.Core.List.{[], ◌∷◌}
use native.Mathlib.Omega.{arith}
use lib.ListN.{take}
use Rattle.clip_write.proofs.WriteLaws.{back_is, few_reverse, two_reverse}
use Rattle.clip_write.proofs.write_end.Goals as goal

pub returns-then-p-eq2 : goal.returns-then-p-eq2
returns-then-p-eq2 g c =
    back_is c.args.out.now c.copy.new.out c.put.new.out (g.L.OpList.ops c.args.list) c.args.p.skip _ (take c.args.p.heads (c.args.p.first ∷ (c.args.p.second ∷ []))) _
    (ap (λ m. m - c.args.p.skip) c.count.ensures.value) (omega arith) (omega arith) (two_reverse c.args.p.heads c.args.p.first c.args.p.second (omega arith)) c.copy.ensures c.put.ensures

pub returns-else-p-eq2 : goal.returns-else-p-eq2
returns-else-p-eq2 g c =
    back_is c.args.out.now c.copy.new.out c.put-else-p-eq2.new.out (g.L.OpList.ops c.args.list) c.args.p.skip _ (take c.args.p.heads (c.args.p.first ∷ (c.args.p.second ∷ []))) _
    (ap (λ m. m - c.args.p.skip) c.count.ensures.value) (omega arith) (omega arith) (few_reverse c.args.p.heads c.args.p.first c.args.p.second (omega arith)) c.copy.ensures c.put-else-p-eq2.ensures
