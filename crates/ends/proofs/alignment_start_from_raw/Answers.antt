-- By the tests; the start is `one_based` of the record's position.
use mathlib.Core.Path.{◌≡◌, ap, sym, ◌∙◌}
use mathlib.Core.Bool.{true, false}
use borrow.Author.Tests.{lt-ltb}
use lib.IntN.{ℤ, pos}
use lib.Signed.{lt_z}
use mir.Syntax.{w32}
use mir.Val.{to_z, of_z}
use Rattle.sam.specs.Record.{pos_of}
use Rattle.ends_rules.specs.Ends.{one_based, alignment_start}
use Rattle.ends_rules.proofs.CaseLaws.{start_none, start_at}
use borrow.Author.Rules.{rules}
use Rattle.ends.proofs.alignment_start_from_raw.Goals as goal

pub returns-then-bam-lt32 : goal.returns-then-bam-lt32
unfolding alignment_start
returns-then-bam-lt32 c =
    simp (lt-ltb _ _ c.if-bam-lt32.true)

pub returns-then-pos-lt0 : goal.returns-then-pos-lt0
returns-then-pos-lt0 c =
    let e : to_z w32 (of_z w32 c.own_place-pos.result.0) ≡ c.own_place-pos.result.0 = search rules in
    let sign : lt_z (pos_of c.args.bam.now) (pos 0) ≡ true =
    ap (λ (z : ℤ). lt_z z (pos 0)) (sym c.own_place-pos.ensures) ∙ simp e at c.if-pos-lt0.true
    in
    start_none c.args.bam.now c.if-bam-lt32.false sign

pub returns : goal.returns
returns c =
    let e : to_z w32 (of_z w32 c.own_place-pos.result.0) ≡ c.own_place-pos.result.0 = search rules in
    let sign : lt_z (pos_of c.args.bam.now) (pos 0) ≡ false =
    ap (λ (z : ℤ). lt_z z (pos 0)) (sym c.own_place-pos.ensures) ∙ simp e at c.if-pos-lt0.false
    in
    c.one_based.ensures
    ∙ ap (λ (z : ℤ). one_based (record { 0 = z })) c.own_place-pos.ensures
    ∙ start_at c.args.bam.now c.if-bam-lt32.false sign
