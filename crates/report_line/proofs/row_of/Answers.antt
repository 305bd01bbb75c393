-- What each call ensures; the first that refuses decides.
use Prim.Native.Nat.{◌≤◌}
use Rattle.std.specs.Prelude.{Err, Ok}
use mathlib.Core.Path.{◌≡◌, refl, sym, ap, ◌∙◌}
use lib.ListN.{length}
use mir.Syntax.{w32}
use mir.Val.{to_z, of_z}
use Rattle.lists.specs.Lists.{sum_of}
use Rattle.sam.specs.Op.{ref_len, query_len}
use Rattle.sam.specs.Record.{ops_end}
use Rattle.oplist.specs.Ops.{record_ops}
use Rattle.oplist.proofs.OpsLaws.{lies, overruns}
use Rattle.length_rules.specs.Lengths.{as_int, checked_ref_length}
use Rattle.line_rules.specs.Inner.{row_of}
use Rattle.line_rules.proofs.LineLaws.{refs_overrun, refs_within, figures_are}
use borrow.Author.Rules.{rules}
use Rattle.report_line.proofs.row_of.Goals as goal

pub returns-then-not-inside : goal.returns-then-not-inside
unfolding row_of
returns-then-not-inside c =
    let h = overruns c.args.rec.now c.area_of.result c.area_of.ensures _ c.inside.ensures (c.if-not-inside.true) in
    sym (figures_are c.args.rec.now _ _ _ _ _ (refs_overrun c.args.rec.now c.requires h) refl refl refl refl)

pub returns-in_err-refs : goal.returns-in_err-refs
unfolding row_of
returns-in_err-refs c =
    let within : ops_end c.args.rec.now ≤ length c.args.rec.now = lies c.args.rec.now c.area_of.result c.area_of.ensures _ c.inside.ensures (c.if-not-inside.false) in
    let refs : checked_ref_length c.args.rec.now ≡ c.as_int.result =
    sym (refs_within c.args.rec.now c.requires within) ∙ ap as_int (sym (c.sums-total.ensures.refs_value.0 ∙ ap (sum_of ref_len) c.of_record.ensures)) ∙ sym c.as_int.ensures
    in
    let told : c.as_int.result ≡ Err c.in_err-refs.field-0.0 = search rules in
    let passed : c.from_residual.result ≡ Err c.in_err-refs.field-0.0 = search rules in
    passed ∙ sym (figures_are c.args.rec.now _ _ _ _ _ (refs ∙ told) refl refl refl refl)

pub returns-in_err-five : goal.returns-in_err-five
unfolding row_of
returns-in_err-five c =
    let within : ops_end c.args.rec.now ≤ length c.args.rec.now = lies c.args.rec.now c.area_of.result c.area_of.ensures _ c.inside.ensures (c.if-not-inside.false) in
    let refs : checked_ref_length c.args.rec.now ≡ c.as_int.result =
    sym (refs_within c.args.rec.now c.requires within) ∙ ap as_int (sym (c.sums-total.ensures.refs_value.0 ∙ ap (sum_of ref_len) c.of_record.ensures)) ∙ sym c.as_int.ensures
    in
    let z : c.as_int.result ≡ Ok c.in_ok-refs.refs = search rules in
    let told : c.unclipped_5prime_from_raw_bam.result ≡ Err c.in_err-five.field-0.0 = search rules in
    let passed : c.from_residual-in_err-five.result ≡ Err c.in_err-five.field-0.0 = search rules in
    passed ∙ sym (figures_are c.args.rec.now _ _ _ _ _ (refs ∙ z) refl (sym c.unclipped_5prime_from_raw_bam.ensures ∙ told) refl refl)

pub returns-in_err-bin : goal.returns-in_err-bin
unfolding row_of
returns-in_err-bin c =
    let within : ops_end c.args.rec.now ≤ length c.args.rec.now = lies c.args.rec.now c.area_of.result c.area_of.ensures _ c.inside.ensures (c.if-not-inside.false) in
    let refs : checked_ref_length c.args.rec.now ≡ c.as_int.result =
    sym (refs_within c.args.rec.now c.requires within) ∙ ap as_int (sym (c.sums-total.ensures.refs_value.0 ∙ ap (sum_of ref_len) c.of_record.ensures)) ∙ sym c.as_int.ensures
    in
    let z : c.as_int.result ≡ Ok c.in_ok-refs.refs = search rules in
    let five : c.unclipped_5prime_from_raw_bam.result ≡ Ok c.in_ok-five.five = search rules in
    let told : c.bin_from_raw_bam.result ≡ Err c.in_err-bin.field-0.0 = search rules in
    let passed : c.from_residual-in_err-bin.result ≡ Err c.in_err-bin.field-0.0 = search rules in
    passed ∙ sym (figures_are c.args.rec.now _ _ _ _ _ (refs ∙ z) refl (sym c.unclipped_5prime_from_raw_bam.ensures ∙ five) (sym c.bin_from_raw_bam.ensures ∙ told) refl)

pub returns : goal.returns
unfolding row_of
returns c =
    let within : ops_end c.args.rec.now ≤ length c.args.rec.now = lies c.args.rec.now c.area_of.result c.area_of.ensures _ c.inside.ensures (c.if-not-inside.false) in
    let refs : checked_ref_length c.args.rec.now ≡ c.as_int.result =
    sym (refs_within c.args.rec.now c.requires within) ∙ ap as_int (sym (c.sums-total.ensures.refs_value.0 ∙ ap (sum_of ref_len) c.of_record.ensures)) ∙ sym c.as_int.ensures
    in
    let z : c.as_int.result ≡ Ok c.in_ok-refs.refs = search rules in
    let five : c.unclipped_5prime_from_raw_bam.result ≡ Ok c.in_ok-five.five = search rules in
    let bin : c.bin_from_raw_bam.result ≡ Ok c.in_ok-bin.bin = search rules in
    let query : sum_of query_len (record_ops c.args.rec.now) ≡ c.sums-total.result.query = sym (c.sums-total.ensures.refs_value.1 ∙ ap (sum_of query_len) c.of_record.ensures) in
    let w : to_z w32 (of_z w32 c.in_ok-refs.refs) ≡ c.in_ok-refs.refs = search rules in
    simp (w, c.length_mark-mark.ensures)
    (sym (figures_are c.args.rec.now _ _ _ _ _ (refs ∙ z) query (sym c.unclipped_5prime_from_raw_bam.ensures ∙ five) (sym c.bin_from_raw_bam.ensures ∙ bin) (sym c.u32_at.ensures)))
