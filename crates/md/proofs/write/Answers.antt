-- What is written and what is left make the answer.
use Prim.Native.Nat.{ℕ}
use mathlib.Core.Bool.{true}
use mathlib.Core.Path.{◌≡◌, refl, sym, ap, ◌∙◌, subst}
use mathlib.Core.List.{List}
use native.Mathlib.Omega.{arith}
use lib.ListN.{length, get_or}
use Rattle.lists.specs.Lists.{splice}
use Rattle.lists.proofs.Absurd.{false_true}
use Rattle.lists.proofs.ListLaws.{length_splice}
use Rattle.sam.specs.Md.{MdColumn}
use Rattle.md_rules.specs.Rule.{agrees, told, op_told}
use Rattle.md_rules.specs.InnerWalk.{columns_here, FigureAt}
use Rattle.md_rules.proofs.PassLaws.{Few, few_bases, start, no_start, next, written, may_write, all_written}
use Rattle.std.specs.Prelude.{Option, Some, None, IsSome}
use Rattle.md_rules.specs.Md.{well_formed, columns_of}
use Rattle.md_rules.specs.declared.Figure.{Figure}
use Rattle.md.proofs.write.Goals as goal

-- a list that agrees begins at a number
begins : (xs text : List ℕ) (r : Option Figure) → Few xs → well_formed text ≡ true → agrees xs (columns_of text) ≡ true → FigureAt text 0 r → IsSome r
begins xs text (Some f) few w a u = refl
begins xs text None few w a u = false_true (sym (no_start xs text few u w) ∙ a)

pub unwrap-f-requires : goal.unwrap-f-requires
unwrap-f-requires c =
    let few : Few c.args.ops.now =
    few_bases c.args.ops.now c.requires.ops_len_bound.0 (λ j. omega (arith, c.type_inv.ops j))
    in
    begins c.args.ops.now c.args.text.now _ few c.requires.ops_len_bound.1.formed c.requires.ops_len_bound.1.agree c.number.ensures

pub loop-op-init : goal.loop-op-init
loop-op-init c =
    let r = subst (FigureAt c.args.text.now 0) c.unwrap-f.ensures c.number.ensures in
    (start c.args.ops.now c.args.text.now c.unwrap-f.result.n c.unwrap-f.result.at r, ap (λ (cs : List MdColumn). splice c.args.out.now 0 (told c.args.ops.now cs)) (sym r.columns), refl)

pub write_op-s-requires : goal.write_op-s-requires
write_op-s-requires c =
    let few : Few c.args.ops.now =
    few_bases c.args.ops.now c.requires.ops_len_bound.0 (λ j. omega (arith, c.type_inv.ops j))
    in
    may_write c.args.ops.now c.args.text.now c.loop-op.op-index c.loop-op.s c.loop-op.invariant.0 (get_or c.args.ops.now c.loop-op.op-index 0) refl (omega arith) c.loop-op.out (few) c.requires.ops_len_bound.1.formed c.requires.ops_len_bound.1.agree (omega (arith, c.requires.text_in_bounds, c.loop-op.invariant.2))

pub loop-op-preserved : goal.loop-op-preserved
loop-op-preserved c =
    let few : Few c.args.ops.now =
    few_bases c.args.ops.now c.requires.ops_len_bound.0 (λ j. omega (arith, c.type_inv.ops j))
    in
    let o = get_or c.args.ops.now c.loop-op.op-index 0 in
    let m = may_write c.args.ops.now c.args.text.now c.loop-op.op-index c.loop-op.s c.loop-op.invariant.0 o refl (omega arith) c.loop-op.out (few) c.requires.ops_len_bound.1.formed c.requires.ops_len_bound.1.agree (omega (arith, c.requires.text_in_bounds, c.loop-op.invariant.2)) in (
      next c.args.ops.now c.args.text.now c.loop-op.op-index c.loop-op.s c.loop-op.invariant.0 o refl (omega arith) c.write_op-s.result c.write_op-s.ensures.behind m.agree c.write_op-s.ensures.rest c.write_op-s.ensures.counted c.write_op-s.ensures.few,
      written c.args.ops.now c.args.text.now c.loop-op.op-index c.loop-op.s c.loop-op.invariant.0 o refl (omega arith) c.write_op-s.result c.write_op-s.ensures.behind m.agree c.write_op-s.ensures.rest c.write_op-s.ensures.counted c.loop-op.out _ _ c.write_op-s.ensures.written m.room c.loop-op.invariant.1,
      ap length c.write_op-s.ensures.written ∙ length_splice c.loop-op.out c.loop-op.s.count (op_told o (columns_here c.args.text.now c.loop-op.s)) m.room ∙ c.loop-op.invariant.2,
    )

pub returns : goal.returns
returns c =
    all_written c.args.ops.now c.args.text.now c.loop-op.op-index c.loop-op.s c.loop-op.invariant.0 (omega arith) c.loop-op.out _ c.loop-op.invariant.1
