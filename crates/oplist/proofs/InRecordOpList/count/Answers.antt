use Rattle.std.proofs.Common.{sym}
use Rattle.oplist.specs.Few.{count_is}
use Rattle.oplist.proofs.InRecordOpList.count.Goals as goal

pub returns-clause-value : goal.returns-clause-value
returns-clause-value c = sym (count_is _)
