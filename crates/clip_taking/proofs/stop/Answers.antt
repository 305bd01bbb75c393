-- Each way out is one case of `ends`; past the tests fewer bases are wanted than the op has.
use Prim.Native.Nat.{ℕ, ◌+◌, ◌<◌}
use mathlib.Core.Path.{ap, ◌∙◌}
use native.Mathlib.Omega.{arith}
use Rattle.clip_rules.specs.InnerPlan.{taken_of}
use Rattle.clip_rules.proofs.CodeLaws.{read_le}
use Rattle.clip_rules.proofs.RuleLaws.{goes_short, stop_none, stop_whole, stop_cut}
use Rattle.clip_taking.proofs.stop.Goals as goal

pub returns-then-n-eq0-clause-by_index : goal.returns-then-n-eq0-clause-by_index
returns-then-n-eq0-clause-by_index c =
    λ xs e. stop_none xs c.args.i c.args.n c.args.op c.args.bases c.args.lost c.if-n-eq0.true e

pub returns-then-code-eq1-clause-by_index : goal.returns-then-code-eq1-clause-by_index
returns-then-code-eq1-clause-by_index c =
    λ xs e. ap (λ (m : ℕ). taken_of xs (c.args.i + 1) (c.args.bases + m) c.args.lost 0 0) c.length_of-len.ensures.0
    ∙ stop_whole xs c.args.i c.args.n c.args.op c.args.bases c.args.lost c.if-n-eq0.false (omega arith)

pub overflow_add-result-3 : goal.overflow_add-result-3
overflow_add-result-3 c =
    let short : c.args.n < c.length_of-len.result =
    let s = goes_short c.args.n c.args.op c.requires.op_value c.if-n-eq0.false in
    let r = read_le c.args.op in
    omega arith
    in
    let s = short in omega arith

pub overflow_add-result-4 : goal.overflow_add-result-4
overflow_add-result-4 c =
    let short : c.args.n < c.length_of-len.result =
    let s = goes_short c.args.n c.args.op c.requires.op_value c.if-n-eq0.false in
    let r = read_le c.args.op in
    omega arith
    in
    let s = short in omega arith

pub overflow_sub-len : goal.overflow_sub-len
overflow_sub-len c =
    let short : c.args.n < c.length_of-len.result =
    let s = goes_short c.args.n c.args.op c.requires.op_value c.if-n-eq0.false in
    let r = read_le c.args.op in
    omega arith
    in
    let s = short in omega arith

pub returns-clause-by_index : goal.returns-clause-by_index
returns-clause-by_index c =
    λ xs e. stop_cut xs c.args.i c.args.n c.args.op c.args.bases c.args.lost c.encode_op.result c.if-n-eq0.false (omega arith) (omega arith)
