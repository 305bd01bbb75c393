-- By the tests; the rest is that of the record's ops, from its own `pos` and strand.
use mathlib.Core.Path.{ap, sym, ◌∙◌}
use mathlib.Core.Bool.{Bool}
use lib.IntN.{ℤ}
use Rattle.sam.specs.Record.{pos_of, is_reverse, is_unmapped}
use Rattle.oplist.specs.Ops.{record_ops}
use Rattle.ends_rules.specs.Ends.{unclipped_by, unclipped_of}
use Rattle.ends_rules.proofs.CaseLaws.{is-unmapped, is_mapped}
use borrow.Author.Tests.{lt-ltb}
use Rattle.unclipped.proofs.unclipped_5prime_from_raw_bam.Goals as goal

pub returns-then-bam-lt32 : goal.returns-then-bam-lt32
unfolding unclipped_of
returns-then-bam-lt32 c =
    simp (lt-ltb _ _ c.if-bam-lt32.true)

pub returns-then-is_unmapped : goal.returns-then-is_unmapped
returns-then-is_unmapped c =
    is-unmapped c.args.bam.now c.if-bam-lt32.false (ap is_unmapped (sym c.u16_at-flags.ensures.0) ∙ sym c.is_unmapped.ensures ∙ c.if-is_unmapped.true)

pub returns : goal.returns
returns c =
    c.unclipped_by.ensures
    ∙ ap (λ xs. unclipped_by xs c.own_place.result c.is_reverse.result) c.of_record.ensures
    ∙ ap (λ (z : ℤ). unclipped_by (record_ops c.args.bam.now) (record { 0 = z }) c.is_reverse.result) c.own_place.ensures
    ∙ ap (λ (t : Bool). unclipped_by (record_ops c.args.bam.now) (record { 0 = pos_of c.args.bam.now }) t) (c.is_reverse.ensures ∙ ap is_reverse c.u16_at-flags.ensures.0)
    ∙ is_mapped c.args.bam.now c.if-bam-lt32.false (ap is_unmapped (sym c.u16_at-flags.ensures.0) ∙ sym c.is_unmapped.ensures ∙ c.if-is_unmapped.false)
