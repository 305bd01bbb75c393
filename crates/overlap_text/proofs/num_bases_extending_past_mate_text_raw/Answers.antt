-- The pass decides each refusal before anything is written; the pair test then says what is left.
use mathlib.Core.Path.{◌≡◌, refl, sym, ap, ◌∙◌}
use Rattle.std.specs.Prelude.{Some, Err, Ok}
use mir.Syntax.{w32}
use mir.Val.{to_z, of_z}
use Rattle.answers.proofs.Unique.{settled, resettled, outcome}
use Rattle.text_rules.specs.Text.{text_ops}
use Rattle.parsed_rules.specs.Parsed.{measured_text}
use Rattle.pairs_rules.specs.Pairs.{is_fr_with_mate}
use Rattle.overlap_rules.specs.Overlap.{pair_list_left, past_mate_text}
use Rattle.overlap_rules.proofs.CallLaws.{text_count, text_short, text-bad, text-many, text-left}
use borrow.Author.Rules.{rules}
use Rattle.overlap_text.proofs.num_bases_extending_past_mate_text_raw.Goals as goal

pub returns-then-bam-lt32 : goal.returns-then-bam-lt32
returns-then-bam-lt32 c =
    settled (text_short _ _ _ c.if-bam-lt32.true)

pub returns-in_default : goal.returns-in_default
returns-in_default c =
    settled (text-bad _ _ _ c.if-bam-lt32.false (sym c.measure.ensures ∙ c.in_default.is))

pub returns-then-n : goal.returns-then-n
returns-then-n c =
    let measured : measured_text c.args.text.now ≡ Some (record { ops = c.in-Some.field-0.ops; refs = c.in-Some.field-0.refs }) =
    sym c.measure.ensures ∙ c.in-Some.is
    in
    settled (text-many _ _ _ c.if-bam-lt32.false _ _ (measured) c.if-n.true)

pub list_left-requires : goal.list_left-requires
list_left-requires c =
    let measured : measured_text c.args.text.now ≡ Some (record { ops = c.in-Some.field-0.ops; refs = c.in-Some.field-0.refs }) =
    sym c.measure.ensures ∙ c.in-Some.is
    in
    (search rules, text_count _ _ _ (measured), c.if-n.false)

pub returns-in_err-fr : goal.returns-in_err-fr
returns-in_err-fr c =
    let w : to_z w32 (of_z w32 c.in-Some.field-0.refs) ≡ c.in-Some.field-0.refs = search rules in
    let told : c.fr_with_mate.result ≡ Err c.in_err-fr.field-0.0 = search rules in
    let passed : c.from_residual.result ≡ Err c.in_err-fr.field-0.0 = search rules in
    let left : past_mate_text c.args.bam.now c.args.text.now c.args.out.now ≡ pair_list_left (Err c.in_err-fr.field-0.0) c.args.bam.now (text_ops c.args.text.now) c.args.out.now =
    text-left c.args.bam.now c.args.text.now c.args.out.now c.if-bam-lt32.false c.in-Some.field-0.ops c.in-Some.field-0.refs (sym c.measure.ensures ∙ c.in-Some.is) (Err c.in_err-fr.field-0.0) c.if-n.false (sym told ∙ c.fr_with_mate.ensures ∙ ap (is_fr_with_mate c.args.bam.now) w)
    in
    settled (left ∙ outcome passed refl)

pub returns : goal.returns
returns c =
    let w : to_z w32 (of_z w32 c.in-Some.field-0.refs) ≡ c.in-Some.field-0.refs = search rules in
    let told : c.fr_with_mate.result ≡ Ok c.in_ok-fr.fr = search rules in
    let left : past_mate_text c.args.bam.now c.args.text.now c.args.out.now ≡ pair_list_left (Ok c.in_ok-fr.fr) c.args.bam.now (text_ops c.args.text.now) c.args.out.now =
    text-left c.args.bam.now c.args.text.now c.args.out.now c.if-bam-lt32.false c.in-Some.field-0.ops c.in-Some.field-0.refs (sym c.measure.ensures ∙ c.in-Some.is) (Ok c.in_ok-fr.fr) c.if-n.false (sym told ∙ c.fr_with_mate.ensures ∙ ap (is_fr_with_mate c.args.bam.now) w)
    in
    resettled left c.list_left.ensures
