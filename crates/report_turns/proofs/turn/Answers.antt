-- The lines of the records at hand, and the last lines or the bytes that are left.
use Rattle.std.proofs.Common.{◌-◌, Bool, take, refl, sym, ap, subst, ◌∙◌, arith}
use Rattle.put_text.proofs.PutLaws.{put_as}
use Rattle.stream_rules.specs.Stream.{closing, last_word}
use Rattle.stream_rules.specs.Inner.{Went}
use Rattle.stream_rules.specs.declared.NextFrame.{NextFrame}
use Rattle.report_rules.specs.Run.{Turned}
use Rattle.report_rules.proofs.TurnLaws.{turned_on, turned_off}
use Rattle.report_turns.proofs.turn.Goals as goal

pub returns-then-not-s-clause-turned : goal.returns-then-not-s-clause-turned
returns-then-not-s-clause-turned c =
    let s = c.args.s.now in
    let r = c.lines_at_hand-b.result in
    let off = c.if-not-s.true in
    let went = subst (λ (w : Bool). Went (take s.have c.args.block.now) w s.records c.args.out.now s.put r c.lines_at_hand-b.new.out) c.is_over-whole.ensures c.lines_at_hand-b.ensures in
    subst (λ (g : Bool). Turned s c.args.block.now c.args.out.now (record { have = s.have; source = s.source; records = r.records; put = c.close-s.result; going = g }) c.args.block.now c.close-s.new.out) (sym off)
    (turned_off s c.args.block.now c.args.out.now r _ went (omega (arith, c.requires)) c.close-s.result _ (omega (arith, c.requires)) (sym c.goes_on-s.ensures ∙ off)
    (put_as _ (ap (λ (x : NextFrame). closing x r.records) (c.last_word-word.ensures ∙ ap (λ (b : Bool). last_word b r.next) c.is_failed.ensures)) refl refl c.close-s.ensures.put))

pub returns-clause-turned : goal.returns-clause-turned
returns-clause-turned c =
    let s = c.args.s.now in
    let r = c.lines_at_hand-b.result in
    let on = c.if-not-s.false in
    let went = subst (λ (w : Bool). Went (take s.have c.args.block.now) w s.records c.args.out.now s.put r c.lines_at_hand-b.new.out) c.is_over-whole.ensures c.lines_at_hand-b.ensures in
    subst (λ (g : Bool). Turned s c.args.block.now c.args.out.now (record { have = s.have - r.used; source = s.source; records = r.records; put = r.put; going = g }) c.shift.new.block c.lines_at_hand-b.new.out) (sym on)
    (turned_on s c.args.block.now c.args.out.now r _ went (omega (arith, c.requires)) _ (omega (arith, c.requires)) (sym c.goes_on-s.ensures ∙ on) c.shift.ensures)
