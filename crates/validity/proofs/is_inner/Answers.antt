-- The mask is the class.
use native.Mathlib.Omega.{arith}
use Rattle.sam.specs.Op.{code_of}
use Rattle.validity.proofs.StepLaws.{inner_bit}
use Rattle.validity.proofs.is_inner.Goals as goal

pub returns : goal.returns
returns c =
    inner_bit (code_of c.args.op) (omega arith)
