-- Both ways are the definition's.
use mathlib.Core.Path.{refl}
use Rattle.clip_rules.proofs.RuleLaws.{goes_none, goes_some}
use Rattle.clip_taking.proofs.goes_on.Goals as goal

pub returns-then-n-eq0 : goal.returns-then-n-eq0
returns-then-n-eq0 c =
    goes_none c.args.n c.args.op _ c.if-n-eq0.true refl

pub returns-else-n-eq0 : goal.returns-else-n-eq0
returns-else-n-eq0 c =
    goes_some c.args.n c.args.op c.read_len.result c.if-n-eq0.false c.read_len.ensures.0
