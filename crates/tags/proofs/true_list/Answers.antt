-- Refusal by refusal, as the definition has them.
use Prim.Native.Nat.{◌≤◌}
use mathlib.Core.Path.{sym, ◌∙◌}
use lib.ListN.{length}
use Rattle.sam.specs.Record.{ops_end}
use Rattle.oplist.proofs.OpsLaws.{lies, overruns}
use Rattle.tag_rules.proofs.ListLaws.{short, overrun, ordinary, behind, same_list}
use Rattle.tags.proofs.true_list.Goals as goal

pub returns-then-bam-lt32 : goal.returns-then-bam-lt32
returns-then-bam-lt32 c =
    sym (short c.args.bam.now c.if-bam-lt32.true)

pub returns-then-not-inside : goal.returns-then-not-inside
returns-then-not-inside c =
    sym (overrun c.args.bam.now c.if-bam-lt32.false (overruns c.args.bam.now c.area_of-area.result c.area_of-area.ensures _ c.inside.ensures (c.if-not-inside.true)))

pub returns-then-not-is_placeholder : goal.returns-then-not-is_placeholder
returns-then-not-is_placeholder c =
    let within : ops_end c.args.bam.now ≤ length c.args.bam.now =
    lies c.args.bam.now c.area_of-area.result c.area_of-area.ensures _ c.inside.ensures (c.if-not-inside.false)
    in
    same_list _ _ _ _ c.area_of-area.ensures.0 c.area_of-area.ensures.1
    ∙ sym (ordinary c.args.bam.now c.if-bam-lt32.false (within) (sym c.is_placeholder.ensures ∙ c.if-not-is_placeholder.true))

pub returns : goal.returns
returns c =
    let within : ops_end c.args.bam.now ≤ length c.args.bam.now =
    lies c.args.bam.now c.area_of-area.result c.area_of-area.ensures _ c.inside.ensures (c.if-not-inside.false)
    in
    c.behind_placeholder.ensures
    ∙ sym (behind c.args.bam.now c.if-bam-lt32.false (within) (sym c.is_placeholder.ensures ∙ c.if-not-is_placeholder.false))
