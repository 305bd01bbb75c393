use Rattle.std.proofs.Common.{◌≡◌, sym, refl, arith, length-set}
use Rattle.lists.proofs.ListLaws.{splice_nil, splice_turn}
use Rattle.oplist.proofs.copy.Goals as goal

pub loop-j-init : goal.loop-j-init
loop-j-init g c = (sym (splice_nil _ _), refl)

pub overflow_add-from : goal.overflow_add-from
overflow_add-from g c = omega (arith, g.met.L.OpList.few c.args.list)

pub loop-j-preserved : goal.loop-j-preserved
loop-j-preserved g c =
    let a = c.args in
    let k = c.loop-j in
    (rw (k.invariant.0, c.op.ensures) (splice_turn a.out.now a.at (g.L.OpList.ops a.list) a.from k.j (omega arith) (omega arith)), simp length-set k.invariant.1)

pub returns : goal.returns
returns g c = let e : c.loop-j.j ≡ c.args.n = omega arith in rw (c.loop-j.invariant.0, e)
