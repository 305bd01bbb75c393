-- The first bytes are compared.
use Rattle.std.proofs.Common.{◌≡◌, take, drop}
use Rattle.receive_rules.specs.Receiving.{same}
use Rattle.receive_parts.proofs.same_bytes.Given as goal

abbrev pub invariant-loop-i : goal.invariant-loop-i
invariant-loop-i l = l.ok ≡ same (take l.i (drop l.at l.got)) (take l.i (drop l.from l.rec))
