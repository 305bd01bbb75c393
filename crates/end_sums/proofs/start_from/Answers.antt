use Rattle.std.proofs.Common.{◌≡◌, sym, ◌∙◌, Some, None, rules, w32, to_z, of_z}
use Rattle.end_sums.proofs.Steps.{less, no_less}
use Rattle.end_sums.proofs.start_from.Goals as goal

pub returns-in_err-whole : goal.returns-in_err-whole
returns-in_err-whole c =
    let none : c.whole.result ≡ None = search rules in
    let passed : c.from_residual.result ≡ None = search rules in
    passed ∙ no_less c.args.at _ (sym c.whole.ensures ∙ none)

pub returns : goal.returns
returns c =
    let n = c.in_ok-whole.field-0 in
    let some : c.whole.result ≡ Some n = search rules in
    let x : to_z w32 (of_z w32 c.args.at) ≡ c.args.at = search rules in
    let y : to_z w32 (of_z w32 n) ≡ n = search rules in
    (simp (x, y) at c.checked_sub.ensures) ∙ less c.args.at n _ (sym c.whole.ensures ∙ some)
