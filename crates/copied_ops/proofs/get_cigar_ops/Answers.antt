-- Past its test the ops are those of the record's own list.
use Rattle.std.proofs.Common.{ℕ, List, sym, ap, lt-ltb, le-ltb}
use Rattle.answers.proofs.Unique.{settled, resettled}
use Rattle.copied_ops.specs.Copied.{copied_ops, get_ops}
use Rattle.copied_ops.proofs.get_cigar_ops.Goals as goal

pub returns-then-bam-lt32 : goal.returns-then-bam-lt32
unfolding get_ops
returns-then-bam-lt32 c = settled (simp (lt-ltb _ _ c.if-bam-lt32.true))

pub returns : goal.returns
unfolding get_ops
returns c =
    resettled
    (simp (le-ltb _ _ c.if-bam-lt32.false) (ap (λ (l : List ℕ). copied_ops l c.args.out.now) (sym (c.of_record.ensures))))
    c.copy_ops.ensures
