-- None, one or two.
use Prim.Native.Nat.{ℕ, ◌+◌}
use mathlib.Core.Path.{◌≡◌, refl, sym, ap, ◌∙◌}
use mathlib.Core.List.{[], ◌∷◌}
use native.Mathlib.Omega.{arith}
use lib.ListN.{take}
use Rattle.lists.specs.Lists.{splice}
use Rattle.lists.proofs.ListLaws.{splice_nil, two_parts}
use Rattle.sam.specs.Record.{uint32, op_bytes}
use Rattle.record_ops.proofs.put_heads.Goals as goal

pub returns-then-heads-eq0 : goal.returns-then-heads-eq0
unfolding op_bytes
returns-then-heads-eq0 c =
    let e : c.args.heads ≡ 0 = omega arith in
    sym (ap (λ (k : ℕ). splice c.args.out.now c.args.at (op_bytes (take k (c.args.a ∷ (c.args.b ∷ []))))) e ∙ splice_nil c.args.out.now c.args.at)

pub returns-then-heads-eq1 : goal.returns-then-heads-eq1
unfolding op_bytes
returns-then-heads-eq1 c =
    let e : 1 ≡ c.args.heads = omega arith in
    c.put_u32.ensures ∙ ap (λ (k : ℕ). splice c.args.out.now c.args.at (op_bytes (take k (c.args.a ∷ (c.args.b ∷ []))))) e

pub returns : goal.returns
unfolding op_bytes
returns c =
    let e : 2 ≡ c.args.heads = omega arith in
    two_parts c.args.out.now _ _ c.args.at (c.args.at + 4) (uint32 c.args.a) (uint32 c.args.b) refl (omega arith) c.put_u32.ensures c.put_u32-2.ensures
    ∙ ap (λ (k : ℕ). splice c.args.out.now c.args.at (op_bytes (take k (c.args.a ∷ (c.args.b ∷ []))))) e
