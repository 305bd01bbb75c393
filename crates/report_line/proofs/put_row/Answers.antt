-- Field behind field, and the end of the line.
use mathlib.Core.Path.{◌≡◌, refl, ap}
use mathlib.Core.List.{◌∷◌}
use lib.IntN.{ℤ}
use mir.Syntax.{w32}
use mir.Val.{to_z, of_z}
use Rattle.put_text.specs.Puts.{signed_decimal}
use Rattle.line_rules.specs.Line.{tabbed}
use Rattle.put_text.proofs.PutLaws.{put_then, put_as}
use borrow.Author.Rules.{rules}
use Rattle.report_line.proofs.put_row.Goals as goal

pub returns-clause-put : goal.returns-clause-put
unfolding tabbed
returns-clause-put c =
    let r : to_z w32 (of_z w32 c.args.row.refs) ≡ c.args.row.refs = search rules in
    let p = put_as _ (ap (λ (z : ℤ). 9 ∷ signed_decimal z) r) refl refl c.put_signed-query.ensures.put in
    put_then _ _ p (put_then _ _ c.put_field-five.ensures.put (put_then _ _ c.put_five-bin.ensures.put (put_then _ _ c.put_field-mark.ensures.put c.put_last.ensures.put)))
