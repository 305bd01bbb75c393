-- There is room for the record, or not.
use mathlib.Core.Bool.{true}
use native.Mathlib.Omega.{arith}
use Rattle.record_rules.proofs.PlanLaws.{no_room, room}
use Rattle.record_write.proofs.put_start.Goals as goal

pub returns-then-out-size : goal.returns-then-out-size
returns-then-out-size c =
    no_room _ _ _ _ (c.size_of-size.ensures true) c.if-out-size.true

pub returns : goal.returns
returns c =
    room _ _ _ _ _ (c.size_of-size.ensures true) (omega arith) c.write_record.ensures
