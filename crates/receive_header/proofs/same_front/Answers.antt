-- Three parts.
use native.Mathlib.Omega.{arith}
use Rattle.receive_rules.proofs.HeaderLaws.{front_is}
use Rattle.receive_header.proofs.same_front.Goals as goal

pub returns : goal.returns
returns c =
    rw (c.same_bytes-reference.ensures, c.u32_at.ensures, c.same_bytes-name.ensures)
    (front_is c.args.got.now c.args.rec.now (λ i. omega (arith, c.type_inv.got i)) (omega arith) (omega arith) c.args.place (omega arith))
