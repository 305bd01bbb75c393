-- Byte behind byte.
use mathlib.Core.List.{[], ◌∷◌}
use Rattle.line_rules.specs.Line.{tabbed}
use Rattle.put_text.proofs.PutLaws.{put_then}
use Rattle.report_fields.proofs.put_last.Goals as goal

pub returns-clause-put : goal.returns-clause-put
unfolding tabbed
returns-clause-put c =
    put_then (9 ∷ []) _ c.put_byte-from.ensures.put (put_then (_ ∷ []) (10 ∷ []) c.put_byte-end.ensures.put c.put_byte.ensures.put)
