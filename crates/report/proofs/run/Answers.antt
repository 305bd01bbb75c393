-- The stream is what was read, and what is left of it.
use Rattle.std.proofs.Common.{sym, ◌∙◌}
use Rattle.std.proofs.lemmas.Bool.{not-true}
use Rattle.blocks.proofs.BlockLaws.{ended_is}
use Rattle.report_rules.proofs.WholeLaws.{whole_came, whole_refused}
use Rattle.report.proofs.run.Goals as goal

pub returns-in-Ok : goal.returns-in-Ok
returns-in-Ok g c =
    let f = c.first-first.ensures in
    λ well. whole_refused _ _ _ _ f.first (sym c.marked.ensures ∙ c.if-not-marked.true) f.bytes (λ none. f.end (ended_is _ none (sym c.is_failed.ensures ∙ not-true _ well))) c.in-Ok.ensures

pub returns-in-Ok-report : goal.returns-in-Ok-report
returns-in-Ok-report g c =
    let e = c.in-Ok-report.ensures in
    λ well. let w = c.is_whole.ensures well in whole_came _ c.first-first.ensures.bytes e.tied.0 w.1 w.0 (λ over. e.end (ended_is _ over w.0)) e.tied.1
