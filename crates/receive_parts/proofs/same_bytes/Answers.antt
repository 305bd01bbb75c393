-- The first bytes are compared.
use Rattle.std.proofs.Common.{◌&&◌, ◌+◌, Bool, arith}
use mathlib.Core.Path.{sym, ap, ◌∙◌}
use lib.Dec.{eqb}
use lib.ListN.{get_or}
use Rattle.receive_rules.proofs.SameLaws.{same_refl}
use Rattle.receive_rules.proofs.WalkLaws.{bytes_turn}
use Rattle.receive_parts.proofs.same_bytes.Goals as goal

pub loop-i-init : goal.loop-i-init
loop-i-init c = sym (same_refl _)

pub loop-i-preserved : goal.loop-i-preserved
loop-i-preserved c =
    ap (λ (t : Bool). t && eqb (get_or c.args.got.now (c.args.at + c.loop-i.i) 0) (get_or c.args.rec.now (c.args.from + c.loop-i.i) 0)) c.loop-i.invariant
    ∙ bytes_turn c.args.got.now c.args.rec.now c.args.at c.args.from c.loop-i.i (omega arith) (omega arith)
