-- The reverse record decides.
use mathlib.Core.Path.{sym, ◌∙◌}
use mathlib.Core.Bool.{true, false}
use Rattle.pairs_rules.proofs.PairLaws.{second_reverse, no_pair, decided}
use Rattle.pairs.proofs.primary_fr.Goals as goal

pub returns-then-not-both_opposite : goal.returns-then-not-both_opposite
returns-then-not-both_opposite c =
    no_pair c.args.a.now c.args.b.now (sym c.both_opposite.ensures ∙ c.if-not-both_opposite.true)

pub returns-then-is_reverse : goal.returns-then-is_reverse
returns-then-is_reverse c =
    decided c.args.a.now c.args.b.now _ _ true (sym c.both_opposite.ensures ∙ c.if-not-both_opposite.false) c.u16_at.ensures.0
    (sym c.is_reverse.ensures ∙ c.if-is_reverse.true) (c.reverse_fr.ensures _)

pub reverse_fr-requires-2-clause-bam_value : goal.reverse_fr-requires-2-clause-bam_value
reverse_fr-requires-2-clause-bam_value c =
    second_reverse c.args.a.now c.args.b.now _ (sym c.both_opposite.ensures ∙ c.if-not-both_opposite.false) c.u16_at.ensures.0
    (sym c.is_reverse.ensures ∙ c.if-is_reverse.false)

pub returns : goal.returns
returns c =
    decided c.args.a.now c.args.b.now _ _ false (sym c.both_opposite.ensures ∙ c.if-not-both_opposite.false) c.u16_at.ensures.0
    (sym c.is_reverse.ensures ∙ c.if-is_reverse.false) (c.reverse_fr-2.ensures _)
