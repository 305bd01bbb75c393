-- One test after another, and then the overhang by the pair test.
use mathlib.Core.Path.{◌≡◌, refl, sym, ap, ◌∙◌}
use mathlib.Core.Bool.{false}
use Rattle.std.specs.Prelude.{Err, None, Ok, Some}
use Prim.Native.Nat.{ℕ, ◌≤◌, ◌<◌}
use lib.IntN.{pos}
use lib.ListN.{length}
use mir.Syntax.{w32}
use mir.Val.{to_z, of_z}
use Rattle.lists.specs.Lists.{sum_of}
use Rattle.signed.specs.Whole.{clamp32}
use Rattle.sam.specs.Op.{ref_len}
use Rattle.answers.specs.declared.Refusal.TheVariants.{TooManyOps}
use Rattle.oplist.specs.Ops.{most_ops}
use Rattle.text_rules.specs.Valid.{valid_mapped}
use Rattle.pairs_rules.specs.Pairs.{is_fr_with_mate}
use Rattle.overlap_rules.specs.Overlap.{is_fr_by}
use Rattle.overlap_rules.proofs.CallLaws.{cigar_short, cigar-many, cigar-apart, cigar-bad, cigar-is}
use borrow.Author.Rules.{rules}
use Rattle.overlap.proofs.num_bases_extending_past_mate_cigar_raw.Goals as goal

pub returns-then-bam-lt32 : goal.returns-then-bam-lt32
returns-then-bam-lt32 c =
    cigar_short _ _ c.if-bam-lt32.true

pub returns-in_err-list : goal.returns-in_err-list
returns-in_err-list c =
    let none : c.new.result ≡ None = search rules in
    let many : most_ops < length c.args.mate_ops.now = rw none at c.new.ensures in
    let passed : c.from_residual.result ≡ Err TooManyOps = search rules in
    passed ∙ cigar-many _ _ c.if-bam-lt32.false many

pub returns-in-Ok-false : goal.returns-in-Ok-false
returns-in-Ok-false c =
    let there : c.new.result ≡ Some c.in_ok-list.list = search rules in
    let few : (length c.args.mate_ops.now ≤ most_ops) × (c.in_ok-list.list.words.now ≡ c.args.mate_ops.now) = rw there at c.new.ensures in
    let orientation : c.fr_with_mate-fr.result ≡ is_fr_by c.args.bam.now c.args.mate_ops.now =
    let f : to_z w32 (of_z w32 c.saturated.result) ≡ c.saturated.result = search rules in
    let n = c.sums-total.ensures.refs_value.0 ∙ ap (sum_of ref_len) few.1 in
    c.fr_with_mate-fr.ensures ∙ ap (is_fr_with_mate c.args.bam.now) (f ∙ c.saturated.ensures ∙ ap (λ (n : ℕ). clamp32 (pos n)) n)
    in
    let no : c.fr_with_mate-fr.result ≡ Ok false = search rules in
    cigar-apart c.args.bam.now c.args.mate_ops.now c.if-bam-lt32.false few.0 (sym (orientation) ∙ no)

pub returns-then-not-valid : goal.returns-then-not-valid
returns-then-not-valid c =
    let there : c.new.result ≡ Some c.in_ok-list.list = search rules in
    let few : (length c.args.mate_ops.now ≤ most_ops) × (c.in_ok-list.list.words.now ≡ c.args.mate_ops.now) = rw there at c.new.ensures in
    let validity : c.valid.result ≡ valid_mapped c.args.mate_ops.now = c.valid.ensures ∙ ap valid_mapped few.1 in
    cigar-bad c.args.bam.now c.args.mate_ops.now c.if-bam-lt32.false few.0 (sym (validity) ∙ c.if-not-valid.true)

pub returns-in_err-fr : goal.returns-in_err-fr
returns-in_err-fr c =
    let there : c.new.result ≡ Some c.in_ok-list.list = search rules in
    let few : (length c.args.mate_ops.now ≤ most_ops) × (c.in_ok-list.list.words.now ≡ c.args.mate_ops.now) = rw there at c.new.ensures in
    let validity : c.valid.result ≡ valid_mapped c.args.mate_ops.now = c.valid.ensures ∙ ap valid_mapped few.1 in
    let orientation : c.fr_with_mate-fr.result ≡ is_fr_by c.args.bam.now c.args.mate_ops.now =
    let f : to_z w32 (of_z w32 c.saturated.result) ≡ c.saturated.result = search rules in
    let n = c.sums-total.ensures.refs_value.0 ∙ ap (sum_of ref_len) few.1 in
    c.fr_with_mate-fr.ensures ∙ ap (is_fr_with_mate c.args.bam.now) (f ∙ c.saturated.ensures ∙ ap (λ (n : ℕ). clamp32 (pos n)) n)
    in
    let told : c.fr_with_mate-fr.result ≡ Err c.in_err-fr.field-0.0 = search rules in
    let passed : c.from_residual-in_err-fr.result ≡ Err c.in_err-fr.field-0.0 = search rules in
    cigar-is c.args.bam.now c.args.mate_ops.now c.if-bam-lt32.false few.0 (sym (validity) ∙ c.if-not-valid.false) (sym told ∙ orientation)
    refl refl passed

pub returns : goal.returns
returns c =
    let there : c.new.result ≡ Some c.in_ok-list.list = search rules in
    let few : (length c.args.mate_ops.now ≤ most_ops) × (c.in_ok-list.list.words.now ≡ c.args.mate_ops.now) = rw there at c.new.ensures in
    let validity : c.valid.result ≡ valid_mapped c.args.mate_ops.now = c.valid.ensures ∙ ap valid_mapped few.1 in
    let orientation : c.fr_with_mate-fr.result ≡ is_fr_by c.args.bam.now c.args.mate_ops.now =
    let f : to_z w32 (of_z w32 c.saturated.result) ≡ c.saturated.result = search rules in
    let n = c.sums-total.ensures.refs_value.0 ∙ ap (sum_of ref_len) few.1 in
    c.fr_with_mate-fr.ensures ∙ ap (is_fr_with_mate c.args.bam.now) (f ∙ c.saturated.ensures ∙ ap (λ (n : ℕ). clamp32 (pos n)) n)
    in
    let told : c.fr_with_mate-fr.result ≡ Ok c.in_ok-fr.field-0 = search rules in
    cigar-is c.args.bam.now c.args.mate_ops.now c.if-bam-lt32.false few.0 (sym (validity) ∙ c.if-not-valid.false) (sym told ∙ orientation)
    c.mate_place.ensures few.1 c.pair_overhang.ensures
