-- As many digits as the number has are stored.
use native.Mathlib.Omega.{arith}
use Rattle.put_text.proofs.PutLaws.{put_decimal}
use Rattle.put_text.proofs.put_number.Goals as goal

pub returns-clause-put : goal.returns-clause-put
returns-clause-put c = put_decimal c.args.n c.width-k.result c.width-k.ensures c.args.out.now _ c.args.at (omega arith) c.put_digits.ensures
