use Rattle.std.proofs.Common.{ℕ, ◌-◌, ap, ◌∙◌, arith}
use Rattle.std.proofs.lemmas.List.Edits.{sets}
use Rattle.decimal.specs.Inner.{last_digits}
use Rattle.decimal.proofs.DigitLaws.{digits_turn}
use Rattle.decimal.proofs.put_digits.Goals as goal

pub loop-i-preserved : goal.loop-i-preserved
loop-i-preserved c =
    let l = c.loop-i in
    (omega arith, digits_turn l.i c.args.at l.rest l.out c.loop-i-test.true ∙ l.invariant.1)

pub returns : goal.returns
unfolding last_digits
returns c =
    let l = c.loop-i in
    ap (λ (k : ℕ). sets l.out c.args.at (last_digits k l.rest)) {x = 0} {y = l.i - c.args.at} (omega arith) ∙ l.invariant.1
