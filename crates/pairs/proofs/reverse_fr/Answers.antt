-- The record is reverse, so that its mate's start decides.
use mathlib.Core.Path.{sym, ◌∙◌}
use Rattle.pairs_rules.proofs.PairLaws.{not_fr, fr_reverse}
use Rattle.pairs.proofs.reverse_fr.Goals as goal

pub returns-then-not-opposite : goal.returns-then-not-opposite
returns-then-not-opposite c =
    λ forward. not_fr forward c.args.bam.now (sym c.opposite.ensures ∙ c.if-not-opposite.true)

pub returns : goal.returns
returns c =
    λ forward. c.mate_starts_before.ensures ∙ fr_reverse c.args.bam.now (sym c.opposite.ensures ∙ c.if-not-opposite.false) c.requires.bam_value forward
