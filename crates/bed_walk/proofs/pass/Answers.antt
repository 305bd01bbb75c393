-- Each way on is one of the three of `PassLaws`.
use Prim.Native.Nat.{◌+◌}
use mathlib.Core.Path.{◌≡◌, sym, ◌∙◌}
use mathlib.Core.Bool.{true, false}
use native.Mathlib.Omega.{arith}
use borrow.Author.Tests.{eq-eqb, ne_eqb}
use Rattle.bed_rules.specs.Blocks.{is_skip}
use Rattle.bed_walk.proofs.PassLaws.{other, skip}
use Rattle.bed_walk.proofs.pass.Goals as goal

pub returns-then-not-is_skip : goal.returns-then-not-is_skip
returns-then-not-is_skip c =
    let s : is_skip c.args.op ≡ false = sym c.is_skip.ensures ∙ c.if-not-is_skip.true in
    (other c.args.walk c.args.op _ c.ref_len.ensures.0 s, omega arith, omega (arith, c.ref_len.ensures.1))

pub returns-then-walk-gt0 : goal.returns-then-walk-gt0
returns-then-walk-gt0 c =
    let s : is_skip c.args.op ≡ true = sym c.is_skip.ensures ∙ c.if-not-is_skip.false in
    let z = ne_eqb c.args.walk.size 0 (λ e. omega (arith, c.if-walk-gt0.true)) in
    (skip c.args.walk c.args.op _ c.ref_len-2.ensures.0 s false z (c.args.walk.n + 1) (omega arith), omega arith, omega (arith, c.ref_len-2.ensures.1))

pub returns : goal.returns
returns c =
    let s : is_skip c.args.op ≡ true = sym c.is_skip.ensures ∙ c.if-not-is_skip.false in
    let z = eq-eqb c.args.walk.size 0 (omega (arith, c.if-walk-gt0.false)) in
    (skip c.args.walk c.args.op _ c.ref_len-2.ensures.0 s true z c.args.walk.n (omega arith), omega arith, omega (arith, c.ref_len-2.ensures.1))
