-- Two stores, one, or none: each is a splice.
use mathlib.Core.Path.{◌≡◌, sym}
use native.Mathlib.Omega.{arith}
use Rattle.lists.proofs.ListLaws.{splice_nil, splice_one, splice_two}
use Rattle.clip_write.proofs.put.Goals as goal

pub returns-then-heads-eq0 : goal.returns-then-heads-eq0
returns-then-heads-eq0 c =
    rw c.if-heads-eq0.true (sym (splice_nil _ _))

pub returns-then-heads-eq1 : goal.returns-then-heads-eq1
returns-then-heads-eq1 c =
    rw c.if-heads-eq1.true (splice_one _ _ _ (omega arith))

pub returns : goal.returns
returns c =
    let e : c.args.heads ≡ 2 = omega arith in
    rw e (splice_two c.args.out.now c.args.at c.args.a c.args.b (omega arith))
