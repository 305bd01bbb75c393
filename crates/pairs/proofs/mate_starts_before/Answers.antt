-- The record's own fields, and the length that it is asked for.
use mathlib.Core.Path.{◌≡◌, sym, ap, ◌∙◌}
use Rattle.std.specs.Prelude.{Err, Ok}
use mir.Syntax.{w32}
use mir.Val.{to_z, of_z}
use Rattle.sam.specs.Record.{pos_of, mate_pos_of}
use Rattle.pairs_rules.specs.Pairs.{starts_before_end, mate_starts_before}
use borrow.Author.Rules.{rules}
use Rattle.pairs.proofs.mate_starts_before.Goals as goal

pub returns : goal.returns
unfolding mate_starts_before
returns c =
    let e : to_z w32 (of_z w32 c.in_ok-n.n) ≡ c.in_ok-n.n = search rules in
    ap Ok (simp (c.mate_place-mate.ensures, c.own_place-own.ensures, e) at c.starts_before_end.ensures)
    ∙ ap (starts_before_end (mate_pos_of c.args.bam.now) (pos_of c.args.bam.now)) (sym c.in_ok-n.was ∙ c.reference_length_from_raw_bam.ensures)

pub returns-in_err-n : goal.returns-in_err-n
unfolding mate_starts_before
returns-in_err-n c =
    let passed : c.from_residual.result ≡ Err c.in_err-n.field-0.0 = search rules in
    passed ∙ ap (starts_before_end (mate_pos_of c.args.bam.now) (pos_of c.args.bam.now)) (sym c.in_err-n.was ∙ c.reference_length_from_raw_bam.ensures)
