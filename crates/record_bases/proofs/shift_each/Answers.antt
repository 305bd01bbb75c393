-- The first bytes are written.
use Rattle.std.proofs.Common.{ℕ, ◌+◌, length, get_or}
use mathlib.Core.Path.{sym, ap, ◌∙◌}
use native.Mathlib.Omega.{arith}
use lib.Seq.{take_all}
use Rattle.record_bases.proofs.PackLaws.{shifted, shifted_size, shifted_at, hold_turn}
use Rattle.record_bases.proofs.shift_each.Goals as goal

pub loop-i-preserved : goal.loop-i-preserved
loop-i-preserved c =
    let P = shifted c.args.bases.now (length c.args.out.now) in
    let l = shifted_size c.args.bases.now (length c.args.out.now) (omega arith) in
    let x = shifted_at c.args.bases.now (length c.args.out.now) c.loop-i.i _ (omega arith) c.straddled.ensures in
    hold_turn c.loop-i.out P 0 c.loop-i.i _ (omega arith) (omega arith) (x ∙ ap (λ (k : ℕ). get_or P k 0) {x = c.loop-i.i} {y = 0 + c.loop-i.i} (omega arith)) c.loop-i.invariant

pub returns : goal.returns
returns c =
    let P = shifted c.args.bases.now (length c.args.out.now) in
    let l = shifted_size c.args.bases.now (length c.args.out.now) (omega arith) in
    sym (take_all c.loop-i.i c.loop-i.out (omega arith)) ∙ c.loop-i.invariant ∙ take_all c.loop-i.i P (omega arith)
