-- The bytes are made, and then stored.
use Rattle.std.proofs.Common.{ℕ, ◌≡◌, ◌+◌, length, take, drop}
use mathlib.Core.Path.{sym, ap, ◌∙◌}
use native.Mathlib.Omega.{arith}
use lib.ListN.{length-set, length-drop}
use lib.Seq.{take_all, length-take-le}
use Rattle.record_parts.proofs.PutLaws.{part_written}
use Rattle.record_bases.proofs.PackLaws.{shifted, shifted_size, shifted_at, hold_turn}
use Rattle.record_bases.proofs.shift_sixteen.Goals as goal

pub loop-i-preserved : goal.loop-i-preserved
loop-i-preserved c =
    let P = shifted c.args.bases.now (length c.args.out.now) in
    let l = shifted_size c.args.bases.now (length c.args.out.now) (omega arith) in
    let x = shifted_at c.args.bases.now (length c.args.out.now) (c.args.at + c.loop-i.i) _ (omega arith) c.straddled.ensures in
    (simp length-set c.loop-i.invariant.0, hold_turn c.loop-i.held P c.args.at c.loop-i.i _ (omega arith) (omega arith) x c.loop-i.invariant.1)

pub returns : goal.returns
returns c =
    let P = shifted c.args.bases.now (length c.args.out.now) in
    let l = shifted_size c.args.bases.now (length c.args.out.now) (omega arith) in
    let m = length-drop c.args.at P in
    let n = length-take-le 16 (drop c.args.at P) (omega arith) in
    let i : c.loop-i.i ≡ 16 = omega arith in
    part_written c.args.out.now _ (take 16 (drop c.args.at P)) c.args.at _ (omega arith)
    (c.copy_from_slice.ensures.after ∙ sym (take_all c.loop-i.i c.loop-i.held (omega arith)) ∙ c.loop-i.invariant.1 ∙ ap (λ (k : ℕ). take k (drop c.args.at P)) i)
