-- By the tests; the end is that of the record's position and the length that it is asked for.
use mathlib.Core.Path.{◌≡◌, ap, sym, ◌∙◌}
use Rattle.std.specs.Prelude.{Ok}
use mathlib.Core.Bool.{true, false}
use borrow.Author.Tests.{lt-ltb}
use lib.IntN.{ℤ, pos}
use lib.Signed.{lt_z}
use mir.Syntax.{w32}
use mir.Val.{to_z, of_z}
use Rattle.sam.specs.Record.{pos_of}
use Rattle.ends_rules.specs.Ends.{end_at, alignment_end}
use Rattle.ends_rules.proofs.CaseLaws.{end_none, end-at}
use borrow.Author.Rules.{rules}
use Rattle.ends.proofs.alignment_end_from_raw.Goals as goal

pub returns-then-bam-lt32 : goal.returns-then-bam-lt32
unfolding alignment_end
returns-then-bam-lt32 c =
    simp (lt-ltb _ _ c.if-bam-lt32.true)

pub returns-then-pos-lt0 : goal.returns-then-pos-lt0
returns-then-pos-lt0 c =
    let e : to_z w32 (of_z w32 c.own_place-pos.result.0) ≡ c.own_place-pos.result.0 = search rules in
    let sign : lt_z (pos_of c.args.bam.now) (pos 0) ≡ true =
    ap (λ (z : ℤ). lt_z z (pos 0)) (sym c.own_place-pos.ensures) ∙ simp e at c.if-pos-lt0.true
    in
    end_none c.args.bam.now c.if-bam-lt32.false sign

pub returns : goal.returns
returns c =
    let e : to_z w32 (of_z w32 c.own_place-pos.result.0) ≡ c.own_place-pos.result.0 = search rules in
    let sign : lt_z (pos_of c.args.bam.now) (pos 0) ≡ false =
    ap (λ (z : ℤ). lt_z z (pos 0)) (sym c.own_place-pos.ensures) ∙ simp e at c.if-pos-lt0.false
    in
    let past : end_at (pos_of c.args.bam.now) c.reference_length_from_raw_bam.result ≡ alignment_end c.args.bam.now =
    ap (end_at (pos_of c.args.bam.now)) c.reference_length_from_raw_bam.ensures ∙ end-at c.args.bam.now c.if-bam-lt32.false sign
    in
    let n : to_z w32 (of_z w32 c.in_ok-n.n) ≡ c.in_ok-n.n = search rules in
    (simp n at c.end_at.ensures)
    ∙ ap (λ (z : ℤ). end_at z (Ok c.in_ok-n.n)) c.own_place-pos.ensures
    ∙ ap (end_at (pos_of c.args.bam.now)) (sym c.in_ok-n.was)
    ∙ past

pub returns-in_err-n : goal.returns-in_err-n
returns-in_err-n c =
    let e : to_z w32 (of_z w32 c.own_place-pos.result.0) ≡ c.own_place-pos.result.0 = search rules in
    let sign : lt_z (pos_of c.args.bam.now) (pos 0) ≡ false =
    ap (λ (z : ℤ). lt_z z (pos 0)) (sym c.own_place-pos.ensures) ∙ simp e at c.if-pos-lt0.false
    in
    let past : end_at (pos_of c.args.bam.now) c.reference_length_from_raw_bam.result ≡ alignment_end c.args.bam.now =
    ap (end_at (pos_of c.args.bam.now)) c.reference_length_from_raw_bam.ensures ∙ end-at c.args.bam.now c.if-bam-lt32.false sign
    in
    let passed : c.from_residual.result ≡ end_at (pos_of c.args.bam.now) c.reference_length_from_raw_bam.result = search rules in
    passed ∙ past
