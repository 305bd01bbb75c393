-- The first bytes are compared with those of the packed bases.
use Rattle.std.proofs.Common.{◌≡◌, ◌*◌, take, drop}
use Rattle.sam.specs.Bases.{bases_of, packed}
use Rattle.receive_rules.specs.Receiving.{same}
use Rattle.receive_parts.proofs.same_shifted.Given as goal

abbrev pub invariant-loop-i : goal.invariant-loop-i
invariant-loop-i l = l.ok ≡ same (take l.i (drop l.at l.got)) (take l.i (packed (take (2 * l.k) (drop l.from (bases_of (drop l.area l.rec))))))
