-- Each way out is one of the definition's ways, on the side that the strand chooses.
use Prim.Native.Nat.{ℕ}
use mathlib.Core.Path.{◌≡◌, refl, sym, ap, ◌∙◌}
use mir.Syntax.{w32}
use mir.Val.{SFits}
use Rattle.lists.specs.Lists.{facing}
use Rattle.clip_run_rules.specs.Clips.{leading_soft}
use Rattle.overhang_rules.specs.Reach.{up_to}
use Rattle.overhang_rules.specs.Overhang.{overhang_of}
use Rattle.overhang_rules.specs.InnerSides.{clip_gap}
use Rattle.overhang_rules.proofs.OverhangLaws.{differ, lies, of_places, short, away, shared, free}
use borrow.Author.Rules.{rules}
use Rattle.overhang.proofs.overhang.Goals as goal

pub returns-then-stops_short : goal.returns-then-stops_short
returns-then-stops_short g c =
    let xs = g.L.OpList.ops c.args.list in
    let ys = g.M.OpList.ops c.args.mate_list in
    let e = lies xs c.new-own.ensures.0 c.new-own.ensures.1 c.sums.ensures.refs_value.0 in
    let f = lies ys c.new-other.ensures.0 c.new-other.ensures.1 c.sums-2.ensures.refs_value.0 in
    let placed : (n : ℕ) → n ≡ overhang_of c.args.reverse c.new-own.result.start.0 xs c.new-other.result.start.0 ys → n ≡ overhang_of c.args.reverse c.args.this.0 xs c.args.mate.0 ys =
    λ n q. of_places _ _ _ q c.new-own.ensures.0 c.new-other.ensures.0
    in
    placed _
    (short _ _ xs ys _ _ e f _ c.args.reverse _ (sym c.stops_short.ensures ∙ c.if-stops_short.true)
    (c.clip_gap-gap.ensures ∙ ap (λ (n : ℕ). clip_gap c.args.reverse c.new-own.result.start.0 c.new-own.result.end.0 c.new-other.result.start.0 c.new-other.result.end.0 n) (c.leading_soft.ensures ∙ ap leading_soft c.new-mate_facing.ensures))
    (differ c.saturating_sub.ensures (c.leading_soft-then-stops_short.ensures ∙ ap leading_soft c.new-facing.ensures) refl))

pub returns-then-stops_short-2 : goal.returns-then-stops_short-2
returns-then-stops_short-2 g c =
    let xs = g.L.OpList.ops c.args.list in
    let ys = g.M.OpList.ops c.args.mate_list in
    let e = lies xs c.new-own.ensures.0 c.new-own.ensures.1 c.sums.ensures.refs_value.0 in
    let f = lies ys c.new-other.ensures.0 c.new-other.ensures.1 c.sums-2.ensures.refs_value.0 in
    let placed : (n : ℕ) → n ≡ overhang_of c.args.reverse c.new-own.result.start.0 xs c.new-other.result.start.0 ys → n ≡ overhang_of c.args.reverse c.args.this.0 xs c.args.mate.0 ys =
    λ n q. of_places _ _ _ q c.new-own.ensures.0 c.new-other.ensures.0
    in
    placed _ (away _ _ xs ys _ _ e f _ c.args.reverse (sym c.stops_short.ensures ∙ c.if-stops_short.false) (sym c.stops_short-2.ensures ∙ c.if-stops_short-2.true) refl)

pub returns-then-is_clamped : goal.returns-then-is_clamped
returns-then-is_clamped g c =
    let xs = g.L.OpList.ops c.args.list in
    let ys = g.M.OpList.ops c.args.mate_list in
    let e = lies xs c.new-own.ensures.0 c.new-own.ensures.1 c.sums.ensures.refs_value.0 in
    let f = lies ys c.new-other.ensures.0 c.new-other.ensures.1 c.sums-2.ensures.refs_value.0 in
    let placed : (n : ℕ) → n ≡ overhang_of c.args.reverse c.new-own.result.start.0 xs c.new-other.result.start.0 ys → n ≡ overhang_of c.args.reverse c.args.this.0 xs c.args.mate.0 ys =
    λ n q. of_places _ _ _ q c.new-own.ensures.0 c.new-other.ensures.0
    in
    placed _
    (shared _ _ xs ys _ _ e f _ c.args.reverse _ (sym c.stops_short.ensures ∙ c.if-stops_short.false) (sym c.stops_short-2.ensures ∙ c.if-stops_short-2.false) c.meeting-target.ensures
    (differ c.saturating_sub-then-is_clamped.ensures c.clamped_past-past.ensures c.clamped_past.ensures))

pub returns : goal.returns
returns g c =
    let xs = g.L.OpList.ops c.args.list in
    let ys = g.M.OpList.ops c.args.mate_list in
    let e = lies xs c.new-own.ensures.0 c.new-own.ensures.1 c.sums.ensures.refs_value.0 in
    let f = lies ys c.new-other.ensures.0 c.new-other.ensures.1 c.sums-2.ensures.refs_value.0 in
    let placed : (n : ℕ) → n ≡ overhang_of c.args.reverse c.new-own.result.start.0 xs c.new-other.result.start.0 ys → n ≡ overhang_of c.args.reverse c.args.this.0 xs c.args.mate.0 ys =
    λ n q. of_places _ _ _ q c.new-own.ensures.0 c.new-other.ensures.0
    in
    let met : SFits w32 c.meeting-target.result.0 = search rules in
    let starts : SFits w32 c.new-own.result.start.0 = search rules in
    let starts-2 : SFits w32 c.new-other.result.start.0 = search rules in
    placed _
    (free _ _ xs ys _ _ e f _ c.args.reverse _ (sym c.stops_short.ensures ∙ c.if-stops_short.false) (sym c.stops_short-2.ensures ∙ c.if-stops_short-2.false) c.meeting-target.ensures
    _ _ (c.new-own.ensures.2 ∙ c.sums.ensures.refs_value.0) (c.new-other.ensures.2 ∙ c.sums-2.ensures.refs_value.0) met starts starts-2 (c.is_clamped.ensures c.if-is_clamped.false)
    (differ c.saturating_sub-2.ensures (c.within-past.ensures ∙ ap (λ l. up_to 0 l c.room_past.result) c.new-facing.ensures ∙ ap (up_to 0 (facing c.args.reverse xs)) c.room_past.ensures)
    (c.within.ensures ∙ ap (λ l. up_to 0 l c.room_past-2.result) c.new-mate_facing.ensures ∙ ap (up_to 0 (facing c.args.reverse ys)) c.room_past-2.ensures)))
