-- The two tests are the definition's; past them the sum over the record's ops.
use mathlib.Core.Path.{ap, ◌∙◌}
use Rattle.lists.specs.Lists.{sum_of}
use Rattle.sam.specs.Op.{ref_len}
use Rattle.oplist.proofs.OpsLaws.{lies, overruns}
use Rattle.length_rules.specs.Lengths.{as_int}
use Rattle.length_rules.proofs.LengthCases.{short, overrun, inside}
use Rattle.lengths.proofs.reference_length_from_raw_bam_checked.Goals as goal

pub returns-then-bam-lt32 : goal.returns-then-bam-lt32
returns-then-bam-lt32 c =
    short _ c.if-bam-lt32.true

pub returns-then-not-inside : goal.returns-then-not-inside
returns-then-not-inside c =
    let h = overruns c.args.bam.now c.area_of.result c.area_of.ensures _ c.inside.ensures (c.if-not-inside.true) in
    overrun c.args.bam.now c.if-bam-lt32.false h

pub returns : goal.returns
returns c =
    let h = lies c.args.bam.now c.area_of.result c.area_of.ensures _ c.inside.ensures (c.if-not-inside.false) in
    inside c.args.bam.now c.if-bam-lt32.false h _ (c.as_int.ensures ∙ ap as_int (c.sums.ensures.refs_value.0 ∙ ap (sum_of ref_len) (c.of_record.ensures)))
