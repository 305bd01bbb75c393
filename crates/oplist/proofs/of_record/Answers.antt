use Rattle.std.proofs.Common.{◌∙◌}
use Rattle.oplist.proofs.OpsLaws.{record_is}
use Rattle.oplist.proofs.of_record.Goals as goal

pub returns : goal.returns
returns c = c.ops_at.ensures ∙ record_is c.args.rec.now _ _ c.area_of.ensures.0 c.area_of.ensures.1
