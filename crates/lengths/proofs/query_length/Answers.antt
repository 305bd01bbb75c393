-- The sum over the record's ops.
use mathlib.Core.Path.{ap, ◌∙◌}
use Rattle.std.specs.Prelude.{Ok}
use borrow.Author.Tests.{lt-ltb, le-ltb}
use Rattle.lists.specs.Lists.{sum_of}
use Rattle.sam.specs.Op.{query_len}
use Rattle.length_rules.specs.Lengths.{record_query_length}
use Rattle.lengths.proofs.query_length.Goals as goal

pub returns-then-bam-lt32 : goal.returns-then-bam-lt32
unfolding record_query_length
returns-then-bam-lt32 c =
    simp (lt-ltb _ _ c.if-bam-lt32.true)

pub returns : goal.returns
unfolding record_query_length
returns c =
    simp (le-ltb _ _ c.if-bam-lt32.false)
    (ap Ok (c.sums.ensures.refs_value.1 ∙ ap (sum_of query_len) (c.of_record.ensures)))
