-- The same at the end, where the answer leaves the count out.
use mathlib.Core.Path.{refl}
use mathlib.Core.Bool.{false}
use native.Mathlib.Omega.{arith}
use Rattle.clip_rules.proofs.AnswerLaws.{uncounted_settled}
use Rattle.record_rules.proofs.PlanLaws.{no_room, room}
use Rattle.record_write.proofs.put_end.Goals as goal

pub returns-then-out-bytes : goal.returns-then-out-bytes
returns-then-out-bytes c =
    uncounted_settled refl (no_room _ c.args.p.count _ _ (c.size_of-bytes.ensures false) c.if-out-bytes.true)

pub returns : goal.returns
returns c =
    uncounted_settled refl (room _ c.args.p.count _ _ _ (c.size_of-bytes.ensures false) (omega arith) c.write_record.ensures)
