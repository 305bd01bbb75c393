-- A forward record's test is of its start and its mate's end.
use mathlib.Core.Path.{sym, ap, ◌∙◌}
use Rattle.std.specs.Prelude.{Ok}
use mir.Facts.{to_z-of_z}
use Rattle.pairs_rules.proofs.PairLaws.{not_fr, fr_forward}
use Rattle.pairs.proofs.fr_with_mate.Goals as goal

pub returns-then-not-opposite : goal.returns-then-not-opposite
returns-then-not-opposite c =
    not_fr _ c.args.bam.now (sym c.opposite.ensures ∙ c.if-not-opposite.true)

pub returns : goal.returns
returns c =
    ap Ok (simp (c.own_place-own.ensures, c.mate_place-mate.ensures, to_z-of_z c.ranges.n) at c.starts_before_end.ensures)
    ∙ fr_forward c.args.bam.now _ c.u16_at.ensures.0 _ (sym c.opposite.ensures ∙ c.if-not-opposite.false) (sym c.is_reverse.ensures ∙ c.if-is_reverse.false)
