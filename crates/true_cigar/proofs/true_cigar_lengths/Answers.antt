-- The lengths of the list that the reader names.
use Rattle.std.proofs.Common.{sym, ap, ◌∙◌}
use Rattle.std.specs.Prelude.{Err}
use Rattle.length_rules.specs.Lengths.{list_lengths}
use Rattle.tag_rules.proofs.HeldLaws.{reads_list}
use Rattle.true_cigar.proofs.true_cigar_lengths.Goals as goal

pub returns : goal.returns
returns c =
    c.list_lengths.ensures
    ∙ ap list_lengths c.ops_at.ensures
    ∙ sym (reads_list Err list_lengths c.args.bam.now _ _ (sym c.in_ok-area.ensures))
