-- A code that is not the mark is the letter's.
use mathlib.Core.Path.{refl, ◌∙◌}
use native.Mathlib.Omega.{arith}
use Rattle.letters.proofs.Table.{known}
use Rattle.alike_tokens.proofs.lettered.Goals as goal

pub returns : goal.returns
returns c =
    (refl, c.code_at-code.ensures ∙ known c.args.letter (omega (arith, c.code_at-code.ensures, c.if-code-gt8.false)), omega (arith, c.if-code-gt8.false), refl)
