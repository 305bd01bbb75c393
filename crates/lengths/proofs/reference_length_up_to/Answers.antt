use Rattle.std.proofs.Common.{ap, ◌∙◌}
use Rattle.lists.specs.Lists.{sum_of}
use Rattle.sam.specs.Op.{ref_len}
use Rattle.length_rules.specs.Lengths.{as_int}
use Rattle.length_rules.proofs.LengthCases.{refs_beyond, refs_within}
use Rattle.lengths.proofs.reference_length_up_to.Goals as goal

pub returns-in_default : goal.returns-in_default
returns-in_default c = refs_beyond _ _ c.in_default.ensures

pub returns : goal.returns
returns c = refs_within _ _ c.in-Some.ensures.0 _ (c.as_int.ensures ∙ ap as_int (c.sums.ensures.refs_value.0 ∙ ap (sum_of ref_len) c.in-Some.ensures.1))
