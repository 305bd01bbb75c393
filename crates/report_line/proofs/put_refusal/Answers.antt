-- The word, the number behind a tab, and the end of the line.
use Prim.Native.Nat.{ℕ}
use mathlib.Core.Path.{refl, ap}
use mathlib.Core.List.{[], ◌∷◌, ◌++◌}
use Rattle.decimal.specs.Decimal.{decimal}
use Rattle.line_rules.specs.Line.{tabbed}
use Rattle.put_text.proofs.PutLaws.{put_then, put_as}
use Rattle.report_line.proofs.put_refusal.Goals as goal

pub returns-clause-put : goal.returns-clause-put
unfolding tabbed
returns-clause-put c =
    let k = c.number.result in
    put_as _ (ap (λ (k : ℕ). 9 ∷ 114 ∷ 101 ∷ 102 ∷ 117 ∷ 115 ∷ 101 ∷ 100 ∷ 9 ∷ (decimal k ++ (10 ∷ []))) c.number.ensures) refl refl
    (put_then (9 ∷ 114 ∷ 101 ∷ 102 ∷ 117 ∷ 115 ∷ 101 ∷ 100 ∷ []) ((9 ∷ decimal k) ++ (10 ∷ [])) c.put_bytes-from.ensures (put_then (9 ∷ decimal k) (10 ∷ []) c.put_field-end.ensures.put c.put_byte.ensures.put))
