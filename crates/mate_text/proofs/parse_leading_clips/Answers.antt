-- `mate_text::parse_leading_clips` meets its contract: the scan of what is left is the scan of the whole text, at a letter, at a digit, and at the end.
use mathlib.Core.Path.{◌≡◌, refl, sym, ap, ◌∙◌}
use mathlib.Core.Bool.{true, false}
use Prim.Native.Nat.{◌+◌}
use lib.IntN.{ℤ, pos, ◌+ℤ◌}
use lib.ListN.{get_or, drop}
use mir.Syntax.{w32}
use mir.Val.{to_z, of_z}
use borrow.Author.Rules.{rules}
use Rattle.sam.specs.Text.{is_digit}
use Rattle.signed.specs.Whole.{clamp32}
use Rattle.mate_rules.specs.InnerScan.{scan}
use Rattle.mate_rules.specs.Pieces.{is_clip_letter}
use Rattle.mate_rules.proofs.Scans.{scan-digit, scan-letter, scan-end}
use Rattle.mate_text.specs.InnerPiece.{Lead, lead_piece}
use Rattle.mate_text.proofs.PieceSteps.{clip_class, lead_stop, lead_clip, scan_off}
use Rattle.mate_text.proofs.Sums.{leading_is}
use Rattle.mate_text.proofs.parse_leading_clips.Goals as goal
use Rattle.mate_text.proofs.parse_leading_clips.Goals.{then-not-push+else-not-is_clip, else-not-push}

-- so many clips, and no other letter was met
abbrev led : ℤ → Lead
led z = record { clips = z; on = true }

pub returns-then-not-is_clip : goal.returns-then-not-is_clip
returns-then-not-is_clip c =
    let text = c.args.text.now in
    let l = c.loop-b in
    let b = get_or text l.b-index 0 in
    let na : is_digit b ≡ false = sym c.push.ensures.0 ∙ c.if-not-push.true in
    let k : is_clip_letter b ≡ false = clip_class b (search rules) _ _ c.code_at.ensures c.is_clip.ensures ∙ c.if-not-is_clip.true in
    let off : Lead = record { clips = to_z w32 l.clips-bits; on = false } in
    let e : scan lead_piece 0 off (drop (l.b-index + 1) text) ≡ scan lead_piece 0 (led (pos 0)) text =
    scan-letter lead_piece text l.b-index l.run.0 c.push.new.self.0 0 c.take-number.result (led (to_z w32 l.clips-bits)) off (search rules) na c.push.ensures.1 c.take-number.ensures.0 refl (sym (lead_stop (led (to_z w32 l.clips-bits)) c.take-number.result b refl k)) ∙ l.invariant
    in
    ap (λ (s : Lead). s.clips) (sym (scan_off (drop (l.b-index + 1) text) 0 off refl) ∙ e) ∙ leading_is text

pub loop-b-preserved : goal.loop-b-preserved
loop-b-preserved c =
    let text = c.args.text.now in
    let l = c.loop-b in
    let i = c.if-not-push in
    let b = get_or text l.b-index 0 in
    let was : ℤ = to_z w32 l.clips-bits in
    elim c.if-not-push.branch [
      | then-not-push+else-not-is_clip w ↦
          let na : is_digit b ≡ false = sym c.push.ensures.0 ∙ w.if-not-push.true in
          let n : to_z w32 (of_z w32 w.take-number.result) ≡ w.take-number.result = search rules in
          let r : to_z w32 (of_z w32 w.saturating_add-clips.result) ≡ w.saturating_add-clips.result = search rules in
          let g : w.saturating_add-clips.result ≡ clamp32 (was +ℤ w.take-number.result) = simp n at w.saturating_add-clips.ensures in
          let k : is_clip_letter b ≡ true = clip_class b (search rules) _ _ w.code_at.ensures w.is_clip.ensures ∙ w.if-not-is_clip.false in
          let f : led (to_z w32 i.clips-bits) ≡ lead_piece (led was) w.take-number.result b = ap led (w.clips-is ∙ r ∙ g) ∙ sym (lead_clip (led was) w.take-number.result b refl k) in
          let o : i.run.0 ≡ 0 = search rules in
          scan-letter lead_piece text l.b-index l.run.0 c.push.new.self.0 i.run.0 w.take-number.result (led was) (led (to_z w32 i.clips-bits)) (search rules) na c.push.ensures.1 w.take-number.ensures.0 o f ∙ l.invariant
      | else-not-push w ↦
          let da : is_digit b ≡ true = sym c.push.ensures.0 ∙ w.if-not-push.false in
          let o : i.run.0 ≡ c.push.new.self.0 = search rules in
          ap (λ (z : ℤ). scan lead_piece i.run.0 (led z) (drop (l.b-index + 1) text)) w.clips-is ∙ scan-digit lead_piece text l.b-index l.run.0 i.run.0 (led was) (search rules) da (o ∙ c.push.ensures.1) ∙ l.invariant
    ]

pub returns : goal.returns
returns c =
    let text = c.args.text.now in
    ap (λ (s : Lead). s.clips) (sym (scan-end lead_piece text c.loop-b.b-index c.loop-b.run.0 (led (to_z w32 c.loop-b.clips-bits)) (search rules)) ∙ c.loop-b.invariant) ∙ leading_is text
