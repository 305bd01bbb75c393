-- The stream is what was read, and what follows it where the magic is another.
use Rattle.std.proofs.Common.{sym, ap, ◌∙◌}
use Rattle.std.proofs.lemmas.Bool.{not-true}
use Rattle.std.proofs.lemmas.Result.{IfOk-at_ok}
use Rattle.blocks.specs.Fill.{is_over}
use Rattle.blocks.proofs.BlockLaws.{ended_is}
use Rattle.bam_rules.proofs.WholeLaws.{whole_came, whole_refused}
use Rattle.bam_to_cgr.proofs.run.Goals as goal

pub returns-then-not-magic : goal.returns-then-not-magic
returns-then-not-magic g c =
    let f = c.first-first.ensures in
    λ ok. whole_refused _ _ _ f.first (sym c.magic.ensures ∙ c.if-not-magic.true) f.bytes (λ none. f.end (ended_is _ none (sym c.is_failed.ensures ∙ not-true _ ok)))

pub returns-in-Ok : goal.returns-in-Ok
returns-in-Ok g c =
    λ ok.
    let e = c.is_whole.ensures ok in
    let t = IfOk-at_ok _ c.in-Ok.is c.convert-end.ensures.tied in
    whole_came _ c.first-first.ensures.bytes t.0 (ap is_over e) (IfOk-at_ok _ c.in-Ok.is c.convert-end.ensures.end e) t.1
