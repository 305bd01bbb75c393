-- `mate_text::pushed` meets its contract: a digit's range, and `omega` for one digit more.
use mathlib.Core.Path.{◌≡◌, sym, ◌∙◌}
use mathlib.Core.Bool.{true}
use native.Mathlib.Omega.{arith}
use Rattle.sam.specs.Text.{is_digit}
use Rattle.sam.proofs.TextLaws.{a_digit}
use Rattle.mate_rules.proofs.Digits.{push_digit, push_held}
use Rattle.mate_rules.proofs.Steps.{push_letter}
use borrow.Author.Rules.{rules}
use Rattle.mate_text.proofs.pushed.Goals as goal

pub returns-then-not-is_ascii_digit : goal.returns-then-not-is_ascii_digit
returns-then-not-is_ascii_digit c =
    sym (push_letter c.args.x c.args.b (sym c.is_ascii_digit.ensures.value ∙ c.if-not-is_ascii_digit.true))

pub returns-then-x-gt214748364 : goal.returns-then-x-gt214748364
returns-then-x-gt214748364 c =
    let digit : is_digit c.args.b ≡ true =
    sym c.is_ascii_digit.ensures.value ∙ c.if-not-is_ascii_digit.false
    in
    sym (push_held c.args.x c.args.b (digit) (omega (arith, c.if-x-gt214748364.true)))

pub returns : goal.returns
returns c =
    let digit : is_digit c.args.b ≡ true =
    sym c.is_ascii_digit.ensures.value ∙ c.if-not-is_ascii_digit.false
    in
    let k = a_digit c.args.b (digit) in
    let p = push_digit c.args.x c.args.b (digit) (search rules) in
    omega arith
