-- `mate_text::trail_rest` meets its contract: over a digit, over the letter that ends the piece, and at the text's end.
use mathlib.Core.Path.{◌≡◌, refl, sym, ap, ◌∙◌}
use mathlib.Core.Bool.{false}
use Prim.Native.Nat.{ℕ, ◌+◌}
use native.Mathlib.Omega.{arith}
use lib.IntN.{pos}
use lib.ListN.{get_or}
use mir.Syntax.{w32}
use mir.Val.{to_z, of_z}
use borrow.Author.Rules.{rules}
use Rattle.sam.specs.Text.{is_digit}
use Rattle.mate_rules.specs.Run.{counts_as}
use Rattle.mate_rules.proofs.Steps.{push_letter}
use Rattle.mate_text.specs.InnerPiece.{trail_piece}
use Rattle.mate_text.proofs.Trails.{on_digit, on_letter, at-end}
use Rattle.mate_text.proofs.trail_rest.Goals as goal

pub returns-then-not-push : goal.returns-then-not-push
returns-then-not-push c =
    let a = c.args in
    let text = a.text.now in
    let b = get_or text c.loop-i.i 0 in
    let na : is_digit b ≡ false = sym c.push.ensures.0 ∙ c.if-not-push.true in
    let n : to_z w32 (of_z w32 c.take-number.result) ≡ c.take-number.result = search rules in
    let g : c.taken.result.found ≡ trail_piece a.found c.take-number.result b = simp n at c.taken.ensures.0 in
    on_letter text a.found a.run.0 a.from c.loop-i.run.0 c.loop-i.i c.loop-i.invariant (search rules) c.taken.result c.take-number.result na
    (c.take-number.ensures.0 ∙ ap (λ (m : ℕ). pos (counts_as m)) (c.push.ensures.1 ∙ push_letter c.loop-i.run.0 b na)) g c.taken.ensures.1 (omega arith)

pub loop-i-preserved : goal.loop-i-preserved
loop-i-preserved c =
    let a = c.args in
    on_digit a.text.now a.found a.run.0 a.from c.loop-i.run.0 c.loop-i.i c.loop-i.invariant (search rules) (c.loop-i.i + 1) c.push.new.self.0 refl (sym c.push.ensures.0 ∙ c.if-not-push.false) c.push.ensures.1

pub returns : goal.returns
returns c =
    let a = c.args in
    at-end a.text.now a.found a.run.0 a.from c.loop-i.run.0 c.loop-i.i c.loop-i.invariant _ (omega arith) refl (omega arith) (omega arith) (omega arith)
