-- After j turns the first j bytes are compared with those of the packed bases.
use Prim.Native.Nat.{ℕ, ◌+◌, ◌*◌}
use mathlib.Core.Path.{◌≡◌, sym, ap, ◌∙◌}
use mathlib.Core.Bool.{Bool, ◌&&◌}
use native.Mathlib.Omega.{arith}
use lib.Dec.{eqb}
use lib.ListN.{get_or, take, drop}
use Rattle.sam.specs.Bases.{bases_of, packed}
use Rattle.receive_rules.specs.Receiving.{same}
use Rattle.receive_rules.proofs.SameLaws.{same_refl}
use Rattle.receive_rules.proofs.WalkLaws.{shifted_turn, shifted_whole}
use Rattle.receive_parts.proofs.same_shifted.Goals as goal

pub loop-i-init : goal.loop-i-init
loop-i-init c = sym (same_refl _)

pub loop-i-preserved : goal.loop-i-preserved
loop-i-preserved c =
    ap (λ (t : Bool). t && eqb (get_or c.args.got.now (c.args.at + c.loop-i.i) 0) c.straddled.result) c.loop-i.invariant
    ∙ shifted_turn c.args.got.now c.args.rec.now c.args.at c.args.area c.args.from c.args.k c.loop-i.i c.straddled.result c.requires.from_value (omega arith) (omega arith) (omega arith) c.straddled.ensures

pub returns : goal.returns
returns c =
    let bs = bases_of (drop c.args.area c.args.rec.now) in
    let e : c.loop-i.i ≡ c.args.k = omega arith in
    c.loop-i.invariant
    ∙ ap (λ (n : ℕ). same (take n (drop c.args.at c.args.got.now)) (take n (packed (take (2 * c.args.k) (drop c.args.from bs))))) e
    ∙ shifted_whole c.args.got.now c.args.rec.now c.args.at c.args.area c.args.from c.args.k (omega arith)
