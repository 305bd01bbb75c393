-- Each case is a law of the ops.
use Prim.Native.Nat.{◌+◌, ◌/◌}
use Rattle.md_rules.specs.InnerWalk.{FigureAt}
use mathlib.Core.Path.{sym, ◌∙◌, subst}
use borrow.Author.Tests.{ne_eqb}
use Rattle.sam.specs.Op.{code_of}
use Rattle.md_rules.proofs.StepLaws.{kept_room, other_wrote, loss-read, loss-wrote}
use Rattle.md.proofs.write_op.Goals as goal

pub bounds-out-s : goal.bounds-out-s
bounds-out-s c =
    kept_room c.args.text.now c.args.s c.args.op c.args.out.now c.requires (ne_eqb (code_of c.args.op) 0 c.if-op-eq0.false)

pub returns-then-not-is_loss : goal.returns-then-not-is_loss
returns-then-not-is_loss c =
    other_wrote c.args.text.now c.args.s c.args.op c.args.out.now c.requires (ne_eqb (code_of c.args.op) 0 c.if-op-eq0.false) (sym c.is_loss.ensures ∙ c.if-not-is_loss.true)

pub unwrap-f-requires : goal.unwrap-f-requires
unwrap-f-requires c =
    loss-read c.args.text.now c.args.s c.args.op c.args.out.now c.requires (ne_eqb (code_of c.args.op) 0 c.if-op-eq0.false) (sym c.is_loss.ensures ∙ c.if-not-is_loss.false) _ c.number.ensures

pub returns : goal.returns
returns c =
    let r = subst (FigureAt c.args.text.now (c.args.s.at + 1 + c.args.op / 16)) c.unwrap-f.ensures c.number.ensures in
    loss-wrote c.args.text.now c.args.s c.args.op c.args.out.now c.requires (ne_eqb (code_of c.args.op) 0 c.if-op-eq0.false) (sym c.is_loss.ensures ∙ c.if-not-is_loss.false) c.unwrap-f.result r
