-- Past its test the lengths are those of the record's own list.
use mathlib.Core.Path.{ap, ◌∙◌}
use borrow.Author.Tests.{lt-ltb, le-ltb}
use Rattle.length_rules.specs.Lengths.{list_lengths, record_lengths}
use Rattle.lengths.proofs.cigar_lengths.Goals as goal

pub returns-then-bam-lt32 : goal.returns-then-bam-lt32
unfolding record_lengths
returns-then-bam-lt32 c =
    simp (lt-ltb _ _ c.if-bam-lt32.true)

pub returns : goal.returns
unfolding record_lengths
returns c =
    simp (le-ltb _ _ c.if-bam-lt32.false) (c.list_lengths.ensures ∙ ap list_lengths (c.of_record.ensures))
