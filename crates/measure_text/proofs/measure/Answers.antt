-- What is left of the pass at i is the whole pass.
use mathlib.Core.Path.{sym, ◌∙◌}
use native.Mathlib.Omega.{arith}
use Rattle.measure_text.proofs.PassLaws.{left_measured, took_fits, pass_none, pass_end, pass-more, pass-stop}
use Rattle.measure_text.proofs.measure.Goals as goal

pub returns-in_err-token : goal.returns-in_err-token
returns-in_err-token c =
    c.from_residual.ensures ∙ sym (pass_none c.args.text.now c.loop-i.i c.loop-i.seen c.in_err-token.ensures) ∙ c.loop-i.invariant.3 ∙ left_measured c.args.text.now

pub returns-in_err-seen : goal.returns-in_err-seen
returns-in_err-seen c =
    c.from_residual-in_err-seen.ensures ∙ sym (pass-stop c.args.text.now c.loop-i.i c.loop-i.seen _ _ _ c.in_ok-token.ensures (sym c.in_err-seen.ensures)) ∙ c.loop-i.invariant.3 ∙ left_measured c.args.text.now

pub loop-i-preserved : goal.loop-i-preserved
loop-i-preserved c =
    let o = c.in_ok-token.ensures in
    let e = sym c.take_op.ensures ∙ c.in_ok-seen.was in
    let f = took_fits c.loop-i.seen c.in_ok-seen.seen _ _ e in (
      o.inside,
      omega arith,
      f.1,
      sym (pass-more c.args.text.now c.loop-i.i c.loop-i.seen _ _ _ o c.in_ok-seen.seen e) ∙ c.loop-i.invariant.3,
    )

pub returns : goal.returns
returns c =
    c.ending.ensures ∙ sym (pass_end c.args.text.now c.loop-i.i c.loop-i.seen (omega arith)) ∙ c.loop-i.invariant.3 ∙ left_measured c.args.text.now
