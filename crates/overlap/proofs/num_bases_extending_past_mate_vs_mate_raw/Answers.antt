-- One test after another, and then the overhang by the pair test.
use mathlib.Core.Path.{◌≡◌, refl, sym, ◌∙◌}
use Rattle.std.specs.Prelude.{Err, Ok}
use borrow.Author.Rules.{rules}
use Rattle.overlap_rules.proofs.CallLaws.{record_short, mate_short, record_is}
use Rattle.overlap.proofs.num_bases_extending_past_mate_vs_mate_raw.Goals as goal

pub returns-then-rec-lt32 : goal.returns-then-rec-lt32
returns-then-rec-lt32 c =
    record_short _ _ c.if-rec-lt32.true

pub returns-then-mate-lt32 : goal.returns-then-mate-lt32
returns-then-mate-lt32 c =
    mate_short _ _ c.if-rec-lt32.false c.if-mate-lt32.true

pub returns-in_err-fr : goal.returns-in_err-fr
returns-in_err-fr c =
    let told : c.primary_fr.result ≡ Err c.in_err-fr.field-0.0 = search rules in
    let passed : c.from_residual.result ≡ Err c.in_err-fr.field-0.0 = search rules in
    record_is c.args.rec.now c.args.mate.now c.if-rec-lt32.false c.if-mate-lt32.false (sym told ∙ c.primary_fr.ensures) refl refl passed

pub returns : goal.returns
returns c =
    let told : c.primary_fr.result ≡ Ok c.in_ok-fr.fr = search rules in
    record_is c.args.rec.now c.args.mate.now c.if-rec-lt32.false c.if-mate-lt32.false (sym told ∙ c.primary_fr.ensures) c.own_place.ensures
    c.of_record.ensures c.pair_overhang.ensures
