-- Op by op, as the definition has them.
use mathlib.Core.Path.{sym}
use Rattle.tag_rules.proofs.ListLaws.{other-count, no_clip, other_length, last_op}
use Rattle.tags.proofs.is_placeholder.Goals as goal

pub returns-then-area-ne2 : goal.returns-then-area-ne2
returns-then-area-ne2 c =
    sym (other-count c.args.bam.now c.requires.bam_in_bounds c.args.area.at c.args.area.n c.requires.at_value c.if-area-ne2.true)

pub returns-then-clip-ne4 : goal.returns-then-clip-ne4
returns-then-clip-ne4 c =
    sym (no_clip c.args.bam.now c.requires.bam_in_bounds c.args.area.at c.args.area.n c.requires.at_value c.if-area-ne2.false _ c.u32_at-clip.ensures c.if-clip-ne4.true)

pub returns-then-clip-u32_at : goal.returns-then-clip-u32_at
returns-then-clip-u32_at c =
    sym (other_length c.args.bam.now c.requires.bam_in_bounds c.args.area.at c.args.area.n c.requires.at_value c.if-area-ne2.false _ c.u32_at-clip.ensures c.if-clip-ne4.false _ c.u32_at.ensures c.if-clip-u32_at.true)

pub returns : goal.returns
returns c =
    sym (last_op c.args.bam.now c.requires.bam_in_bounds c.args.area.at c.args.area.n c.requires.at_value c.if-area-ne2.false _ c.u32_at-clip.ensures c.if-clip-ne4.false _ c.u32_at.ensures c.if-clip-u32_at.false _ c.u32_at-2.ensures)
