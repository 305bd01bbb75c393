-- `mate_text::trail_at` meets its contract: the first three bytes are pushed one by one, up to the one that ends the piece.
use mathlib.Core.Path.{◌≡◌, refl, sym, ap, ◌∙◌}
use mathlib.Core.Bool.{false}
use Prim.Native.Nat.{ℕ, ◌+◌}
use native.Mathlib.Omega.{arith}
use lib.IntN.{pos}
use lib.ListN.{get_or}
use mir.Syntax.{w32}
use mir.Val.{to_z, of_z}
use borrow.Author.Rules.{rules}
use Rattle.sam.specs.Text.{is_digit}
use Rattle.mate_rules.specs.Run.{counts_as, push_of}
use Rattle.mate_rules.proofs.Steps.{push_letter}
use Rattle.mate_text.specs.InnerPiece.{trail_piece}
use Rattle.mate_text.proofs.Trails.{Come, on_digit, on_letter, by-rest}
use Rattle.mate_text.proofs.trail_at.Goals as goal

pub returns-then-not-push : goal.returns-then-not-push
returns-then-not-push c =
    let a = c.args in
    let text = a.text.now in
    let b = get_or text a.at 0 in
    let na : is_digit b ≡ false = sym c.push.ensures.0 ∙ c.if-not-push.true in
    let n : to_z w32 (of_z w32 c.take-number.result) ≡ c.take-number.result = search rules in
    let g : c.taken.result.found ≡ trail_piece a.found c.take-number.result b = simp n at c.taken.ensures.0 in
    on_letter text a.found 0 a.at 0 a.at refl (search rules) c.taken.result c.take-number.result na
    (c.take-number.ensures.0 ∙ ap (λ (m : ℕ). pos (counts_as m)) (c.push.ensures.1 ∙ push_letter _ b na ∙ c.new-run.ensures)) g c.taken.ensures.1 (omega arith)

pub returns-then-not-push-2 : goal.returns-then-not-push-2
returns-then-not-push-2 c =
    let a = c.args in
    let text = a.text.now in
    let b = get_or text (a.at + 1) 0 in
    let one : Come text a.found 0 a.at c.push.new.self.0 (a.at + 1) =
    on_digit text a.found 0 a.at 0 a.at refl (search rules) (a.at + 1) c.push.new.self.0 refl (sym c.push.ensures.0 ∙ c.if-not-push.false) (c.push.ensures.1 ∙ ap (λ (x : ℕ). push_of x (get_or text a.at 0)) c.new-run.ensures)
    in
    let na : is_digit b ≡ false = sym c.push-2.ensures.0 ∙ c.if-not-push-2.true in
    let t = c.take-number-then-not-push-2 in
    let n : to_z w32 (of_z w32 t.result) ≡ t.result = search rules in
    let g : c.taken-then-not-push-2.result.found ≡ trail_piece a.found t.result b = simp n at c.taken-then-not-push-2.ensures.0 in
    on_letter text a.found 0 a.at c.push.new.self.0 (a.at + 1) one (search rules) c.taken-then-not-push-2.result t.result na
    (t.ensures.0 ∙ ap (λ (m : ℕ). pos (counts_as m)) (c.push-2.ensures.1 ∙ push_letter _ b na)) g (omega (arith, c.taken-then-not-push-2.ensures.1)) (omega arith)

pub returns-then-not-push-3 : goal.returns-then-not-push-3
returns-then-not-push-3 c =
    let a = c.args in
    let text = a.text.now in
    let b = get_or text (a.at + 2) 0 in
    let one : Come text a.found 0 a.at c.push.new.self.0 (a.at + 1) =
    on_digit text a.found 0 a.at 0 a.at refl (search rules) (a.at + 1) c.push.new.self.0 refl (sym c.push.ensures.0 ∙ c.if-not-push.false) (c.push.ensures.1 ∙ ap (λ (x : ℕ). push_of x (get_or text a.at 0)) c.new-run.ensures)
    in
    let two : Come text a.found 0 a.at c.push-2.new.self.0 (a.at + 2) =
    on_digit text a.found 0 a.at c.push.new.self.0 (a.at + 1) one (search rules) (a.at + 2) c.push-2.new.self.0 (omega arith) (sym c.push-2.ensures.0 ∙ c.if-not-push-2.false) c.push-2.ensures.1
    in
    let na : is_digit b ≡ false = sym c.push-3.ensures.0 ∙ c.if-not-push-3.true in
    let t = c.take-number-then-not-push-3 in
    let n : to_z w32 (of_z w32 t.result) ≡ t.result = search rules in
    let g : c.taken-then-not-push-3.result.found ≡ trail_piece a.found t.result b = simp n at c.taken-then-not-push-3.ensures.0 in
    on_letter text a.found 0 a.at c.push-2.new.self.0 (a.at + 2) two (search rules) c.taken-then-not-push-3.result t.result na
    (t.ensures.0 ∙ ap (λ (m : ℕ). pos (counts_as m)) (c.push-3.ensures.1 ∙ push_letter _ b na)) g (omega (arith, c.taken-then-not-push-3.ensures.1)) (omega arith)

pub returns : goal.returns
returns c =
    let a = c.args in
    let text = a.text.now in
    let one : Come text a.found 0 a.at c.push.new.self.0 (a.at + 1) =
    on_digit text a.found 0 a.at 0 a.at refl (search rules) (a.at + 1) c.push.new.self.0 refl (sym c.push.ensures.0 ∙ c.if-not-push.false) (c.push.ensures.1 ∙ ap (λ (x : ℕ). push_of x (get_or text a.at 0)) c.new-run.ensures)
    in
    let two : Come text a.found 0 a.at c.push-2.new.self.0 (a.at + 2) =
    on_digit text a.found 0 a.at c.push.new.self.0 (a.at + 1) one (search rules) (a.at + 2) c.push-2.new.self.0 (omega arith) (sym c.push-2.ensures.0 ∙ c.if-not-push-2.false) c.push-2.ensures.1
    in
    by-rest text a.found 0 a.at c.push-3.new.self.0 (a.at + 3)
    (on_digit text a.found 0 a.at c.push-2.new.self.0 (a.at + 2) two (search rules) (a.at + 3) c.push-3.new.self.0 (omega arith) (sym c.push-3.ensures.0 ∙ c.if-not-push-3.false) c.push-3.ensures.1)
    c.trail_rest-2.result c.trail_rest-2.ensures (omega arith)
