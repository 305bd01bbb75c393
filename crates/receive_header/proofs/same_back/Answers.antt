-- Four parts.
use native.Mathlib.Omega.{arith}
use Rattle.receive_rules.proofs.HeaderLaws.{back_is}
use Rattle.receive_header.proofs.same_back.Goals as goal

pub returns : goal.returns
returns c =
    rw (c.u16_at.ensures.0, c.same_bytes-flags.ensures, c.u32_at.ensures, c.same_bytes-mate.ensures)
    (back_is c.args.got.now c.args.rec.now (λ i. omega (arith, c.type_inv.got i)) (omega arith) (omega arith) c.args.n c.args.len (omega arith) (omega arith))
