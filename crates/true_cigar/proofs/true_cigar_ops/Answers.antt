-- The ops of the list that the reader names.
use Rattle.std.proofs.Common.{sym, ap, ◌∙◌, ℕ, List}
use Rattle.std.specs.Prelude.{Err}
use Rattle.answers.proofs.Unique.{resettled}
use Rattle.copied_ops.specs.Copied.{copied_ops}
use Rattle.tag_rules.proofs.HeldLaws.{reads_list}
use Rattle.true_rules.specs.True.{stop_kept}
use Rattle.true_cigar.proofs.true_cigar_ops.Goals as goal

pub returns : goal.returns
returns c =
    resettled
    (reads_list (stop_kept Err c.args.out.now) (λ (l : List ℕ). copied_ops l c.args.out.now) c.args.bam.now _ _ (sym c.in_ok-area.ensures)
    ∙ ap (λ (l : List ℕ). copied_ops l c.args.out.now) (sym c.ops_at.ensures))
    c.copy_ops.ensures
