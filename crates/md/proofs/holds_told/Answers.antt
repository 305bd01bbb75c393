-- The library's chain finds an op that the definition finds.
use Rattle.std.proofs.Common.{rules}
use Rattle.md_rules.proofs.PassLaws.{told_any}
use Rattle.md.proofs.holds_told.Goals as goal

pub returns : goal.returns
returns c = told_any c.any.result c.args.ops.now (search rules)
