-- A place on a level is one of its bins.
use Prim.Native.Nat.{ℕ, ◌+◌, ◌/◌, ◌^◌}
use mathlib.Core.Path.{ap}
use native.Mathlib.Omega.{arith}
use Rattle.csi_levels.proofs.Up.{order_up, last_small}
use Rattle.csi_levels.proofs.bin_at.Goals as goal

pub overflow_cast-result-2 : goal.overflow_cast-result-2
overflow_cast-result-2 c =
    let p = order_up c.args.left c.args.shift c.args.beg c.args.last c.requires in
    let q = last_small c.args.left c.args.shift c.args.beg c.args.last c.requires in
    omega arith

pub overflow_add-result : goal.overflow_add-result
overflow_add-result c =
    let p = order_up c.args.left c.args.shift c.args.beg c.args.last c.requires in
    let q = last_small c.args.left c.args.shift c.args.beg c.args.last c.requires in
    omega arith

pub returns : goal.returns
returns c =
    let p = order_up c.args.left c.args.shift c.args.beg c.args.last c.requires in
    let q = last_small c.args.left c.args.shift c.args.beg c.args.last c.requires in
    (ap (λ (n : ℕ). n + c.args.beg / 2 ^ c.args.shift) c.first_of.ensures.0, omega arith)
