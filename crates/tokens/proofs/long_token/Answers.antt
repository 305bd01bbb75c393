-- At i stands what is left of the op after the number of its digits so far.
use Prim.Native.Nat.{ℕ, ◌+◌, ◌-◌, ◌*◌, ◌≤◌}
use mathlib.Core.Path.{◌≡◌, sym, ap, ◌∙◌}
use mathlib.Core.Bool.{true, false}
use native.Mathlib.Omega.{arith}
use lib.ListN.{get_or}
use Rattle.sam.specs.Op.{letter_code}
use Rattle.sam.specs.Text.{is_digit}
use Rattle.text_rules.specs.Text.{Effect}
use Rattle.sam.proofs.TextLaws.{a_digit}
use Rattle.letters.proofs.Table.{known, unknown}
use Rattle.text_rules.proofs.ByteLaws.{byte_digit, byte_over, byte_letter, byte_zero, byte_unknown}
use Rattle.tokens.proofs.TextLaws.{read_bad, read_digit, read_letter, read_end}
use Rattle.tokens.proofs.long_token.Goals as goal

pub returns-then-num-eq0 : goal.returns-then-num-eq0
returns-then-num-eq0 c =
    let here : ℕ =
    get_or c.args.text.now c.loop-i.i 0
    in
    let letter : is_digit (here) ≡ false =
    sym c.is_ascii_digit.ensures.value ∙ c.if-not-is_ascii_digit.true
    in
    read_bad c.args.text.now c.args.at c.loop-i.i c.loop-i.num c.loop-i.invariant.2 c.loop-i-test.true
    (byte_zero c.loop-i.num (here) (letter) c.if-num-eq0.true)

pub returns-then-code-gt8 : goal.returns-then-code-gt8
returns-then-code-gt8 c =
    let here : ℕ =
    get_or c.args.text.now c.loop-i.i 0
    in
    let letter : is_digit (here) ≡ false =
    sym c.is_ascii_digit.ensures.value ∙ c.if-not-is_ascii_digit.true
    in
    read_bad c.args.text.now c.args.at c.loop-i.i c.loop-i.num c.loop-i.invariant.2 c.loop-i-test.true
    (byte_unknown c.loop-i.num (here) (letter) (unknown (here) (omega (arith, c.code_at-code.ensures, c.if-code-gt8.true))))

pub returns-then-not-is_ascii_digit : goal.returns-then-not-is_ascii_digit
returns-then-not-is_ascii_digit c =
    let here : ℕ =
    get_or c.args.text.now c.loop-i.i 0
    in
    let letter : is_digit (here) ≡ false =
    sym c.is_ascii_digit.ensures.value ∙ c.if-not-is_ascii_digit.true
    in
    let q : c.code_at-code.result ≡ letter_code (here) = c.code_at-code.ensures ∙ known (here) (omega (arith, c.code_at-code.ensures)) in
    read_letter c.args.text.now c.args.at c.loop-i.i c.loop-i.num c.loop-i.invariant.2 c.code_at-code.result c.loop-i-test.true
    (omega arith) (omega arith) (omega arith) (omega arith)
    (byte_letter c.loop-i.num (here) (letter) c.if-num-eq0.false (omega (arith, q)) ∙ ap Effect.Letter (sym q))

pub returns-then-num-gt268435455 : goal.returns-then-num-gt268435455
returns-then-num-gt268435455 c =
    let here : ℕ =
    get_or c.args.text.now c.loop-i.i 0
    in
    let digit : is_digit (here) ≡ true =
    sym c.is_ascii_digit.ensures.value ∙ c.if-not-is_ascii_digit.false
    in
    let d = a_digit (here) (digit) in
    read_bad c.args.text.now c.args.at c.loop-i.i c.loop-i.num c.loop-i.invariant.2 c.loop-i-test.true
    (byte_over c.loop-i.num (here) (digit) (omega arith))

pub loop-i-preserved : goal.loop-i-preserved
loop-i-preserved c =
    let here : ℕ =
    get_or c.args.text.now c.loop-i.i 0
    in
    let digit : is_digit (here) ≡ true =
    sym c.is_ascii_digit.ensures.value ∙ c.if-not-is_ascii_digit.false
    in
    let d = a_digit (here) (digit) in
    let m : c.loop-i.num * 10 + (here - 48) ≤ 268435455 = omega arith in (
      m,
      omega arith,
      read_digit c.args.text.now c.args.at c.loop-i.i c.loop-i.num c.loop-i.invariant.2 (c.loop-i.num * 10 + (here - 48))
          c.loop-i-test.true (omega arith) (byte_digit c.loop-i.num (here) (digit) m),
    )

pub returns : goal.returns
returns c =
    read_end c.args.text.now c.args.at c.loop-i.i c.loop-i.num c.loop-i.invariant.2 (omega arith) (omega arith)
