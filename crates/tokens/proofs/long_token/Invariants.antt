-- At i stands what is left of the op after the number of its digits so far.
use Prim.Native.Nat.{◌-◌, ◌*◌, ◌≤◌}
use Rattle.tokens.proofs.TextLaws.{Reading}
use Rattle.tokens.proofs.long_token.Given as goal

abbrev pub invariant-loop-i : goal.invariant-loop-i
invariant-loop-i l =
    (l.num ≤ 268435455) × (l.num ≤ (l.i - l.at) * 268435455) × Reading l.text l.at l.i l.num
