use Rattle.std.proofs.Common.{ap, ◌∙◌}
use Rattle.lists.specs.Lists.{sum_of}
use Rattle.sam.specs.Op.{query_len}
use Rattle.length_rules.proofs.LengthCases.{query_beyond, query_within}
use Rattle.lengths.proofs.query_length_up_to.Goals as goal

pub returns-in_default : goal.returns-in_default
returns-in_default c = query_beyond _ _ c.in_default.ensures

pub returns : goal.returns
returns c = query_within _ _ c.in-Some.ensures.0 _ (c.sums.ensures.refs_value.1 ∙ ap (sum_of query_len) c.in-Some.ensures.1)
