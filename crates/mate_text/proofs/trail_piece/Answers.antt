-- `mate_text::trail_piece` meets its contract: each way out is one case of the definition.
use mathlib.Core.Path.{◌≡◌, sym, ap, ◌∙◌}
use mathlib.Core.Bool.{true, false}
use lib.IntN.{ℤ, pos, ◌+ℤ◌}
use mir.Syntax.{w32}
use mir.Val.{to_z, of_z}
use Rattle.std.specs.Prelude.{Some}
use Rattle.signed.specs.Whole.{clamp32}
use Rattle.mate_rules.specs.Pieces.{is_ref_letter, is_clip_letter}
use Rattle.mate_text.proofs.PieceSteps.{ref_class, clip_class, trail_ref, trail_other, trail_early, trail_clip}
use borrow.Author.Rules.{rules}
use Rattle.mate_text.proofs.trail_piece.Goals as goal

pub returns-then-not-is_clip : goal.returns-then-not-is_clip
returns-then-not-is_clip c =
    let a = c.args in
    let k : is_ref_letter a.letter ≡ false = ref_class a.letter (search rules) _ _ c.code_at-code.ensures c.consumes_ref.ensures ∙ c.if-consumes_ref.false in
    let l : is_clip_letter a.letter ≡ false = clip_class a.letter (search rules) _ _ c.code_at-code.ensures c.is_clip.ensures ∙ c.if-not-is_clip.true in
    sym (trail_other a.s a.number a.letter k l)

pub returns-in_default : goal.returns-in_default
returns-in_default c =
    let a = c.args in
    let k : is_ref_letter a.letter ≡ false = ref_class a.letter (search rules) _ _ c.code_at-code.ensures c.consumes_ref.ensures ∙ c.if-consumes_ref.false in
    let l : is_clip_letter a.letter ≡ true = clip_class a.letter (search rules) _ _ c.code_at-code.ensures c.is_clip.ensures ∙ c.if-not-is_clip.false in
    sym (trail_early a.s a.number a.letter k l c.in_default.is)

pub returns-then-consumes_ref : goal.returns-then-consumes_ref
returns-then-consumes_ref c =
    let a = c.args in
    let e : to_z w32 (of_z w32 a.s.refs) ≡ a.s.refs = search rules in
    let n : to_z w32 (of_z w32 a.number) ≡ a.number = search rules in
    let r : to_z w32 (of_z w32 c.saturating_add.result) ≡ c.saturating_add.result = search rules in
    let g : c.saturating_add.result ≡ clamp32 (a.s.refs +ℤ a.number) = simp (e, n) at c.saturating_add.ensures in
    let k : is_ref_letter a.letter ≡ true = ref_class a.letter (search rules) _ _ c.code_at-code.ensures c.consumes_ref.ensures ∙ c.if-consumes_ref.true in
    ap (λ (z : ℤ). record { refs = z; clips = Some (pos 0) }) (r ∙ g) ∙ sym (trail_ref a.s a.number a.letter k)

pub returns : goal.returns
returns c =
    let a = c.args in
    let p : to_z w32 (of_z w32 a.s.refs) ≡ a.s.refs = search rules in
    let e : to_z w32 (of_z w32 c.in-Some.clips) ≡ c.in-Some.clips = search rules in
    let n : to_z w32 (of_z w32 a.number) ≡ a.number = search rules in
    let r : to_z w32 (of_z w32 c.saturating_add-2.result) ≡ c.saturating_add-2.result = search rules in
    let g : c.saturating_add-2.result ≡ clamp32 (c.in-Some.clips +ℤ a.number) = simp (e, n) at c.saturating_add-2.ensures in
    let k : is_ref_letter a.letter ≡ false = ref_class a.letter (search rules) _ _ c.code_at-code.ensures c.consumes_ref.ensures ∙ c.if-consumes_ref.false in
    let l : is_clip_letter a.letter ≡ true = clip_class a.letter (search rules) _ _ c.code_at-code.ensures c.is_clip.ensures ∙ c.if-not-is_clip.false in
    ap (λ (z : ℤ). record { refs = z; clips = Some (to_z w32 (of_z w32 c.saturating_add-2.result)) }) p
    ∙ ap (λ (z : ℤ). record { refs = a.s.refs; clips = Some z }) (r ∙ g)
    ∙ sym (trail_clip a.s a.number a.letter c.in-Some.clips k l c.in-Some.is)
