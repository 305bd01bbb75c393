-- The ops that are passed and those that are left make the list.
use Rattle.std.specs.Prelude.{None}
use borrow.Author.Rules.{rules}
use mathlib.Core.Path.{◌≡◌, refl}
use native.Mathlib.Omega.{arith}
use lib.ListN.{get_or}
use Rattle.md_rules.proofs.PassLaws.{Few, few_bases, no_start, differs, next, matches_left, text-left, all-passed}
use Rattle.md.proofs.measure.Goals as goal
use Rattle.md.proofs.measure.Goals.{then-s-ne0-via-then-s-ne0, then-s-ne0-via-else-s-ne0+then-s-text}

pub returns-in_err-f : goal.returns-in_err-f
returns-in_err-f c =
    let few : Few c.args.ops.now =
    few_bases c.args.ops.now c.requires (λ j. omega (arith, c.type_inv.ops j))
    in
    let e : c.from_residual.result ≡ None = search rules in
    rw e (no_start c.args.ops.now c.args.text.now few c.in_err-f.ensures)

pub returns-in_err-s : goal.returns-in_err-s
returns-in_err-s c =
    let few : Few c.args.ops.now =
    few_bases c.args.ops.now c.requires (λ j. omega (arith, c.type_inv.ops j))
    in
    let e : c.from_residual-in_err-s.result ≡ None = search rules in
    rw e (differs c.args.ops.now c.args.text.now c.loop-op.op-index c.loop-op.s c.loop-op.invariant (get_or c.args.ops.now c.loop-op.op-index 0) refl (omega arith) (few) c.in_err-s.ensures)

pub loop-op-preserved : goal.loop-op-preserved
loop-op-preserved c =
    let u = c.in_ok-s.ensures in
    next c.args.ops.now c.args.text.now c.loop-op.op-index c.loop-op.s c.loop-op.invariant (get_or c.args.ops.now c.loop-op.op-index 0) refl (omega arith) c.in_ok-s.s u.behind u.agree u.rest u.counted u.few

pub returns-then-s-ne0 : goal.returns-then-s-ne0
returns-then-s-ne0 c =
    elim c.then-s-ne0.branch [
      | then-s-ne0-via-then-s-ne0 w ↦ λ f. matches_left c.args.ops.now c.args.text.now c.loop-op.op-index c.loop-op.s c.loop-op.invariant (omega arith) w.if-s-ne0.true
      | then-s-ne0-via-else-s-ne0+then-s-text w ↦ text-left c.args.ops.now c.args.text.now c.loop-op.op-index c.loop-op.s c.loop-op.invariant (omega arith) w.if-s-ne0.false w.if-s-text.true
    ]

pub returns : goal.returns
returns c =
    all-passed c.args.ops.now c.args.text.now c.loop-op.op-index c.loop-op.s c.loop-op.invariant (omega arith) c.if-s-ne0.false (omega arith)
