-- The number's bytes, the lowest first.
use mathlib.Core.Path.{◌∙◌}
use native.Mathlib.Omega.{arith}
use Rattle.record_parts.proofs.PutLaws.{part_written, two_bytes_of}
use Rattle.record_parts.proofs.put_u16.Goals as goal

pub returns : goal.returns
returns c = part_written c.args.out.now _ _ c.args.at _ (omega arith) (c.copy_from_slice.ensures.after ∙ c.to_le_bytes.ensures ∙ two_bytes_of c.args.n)
