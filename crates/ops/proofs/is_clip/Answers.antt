-- The test is the table.
use Rattle.ops.proofs.CodeLaws.{clip_code}
use Rattle.ops.proofs.is_clip.Goals as goal

pub returns : goal.returns
returns c = clip_code c.args.op
