-- Each test is one of the definition; the ends are not negative behind them.
use Prim.Native.Nat.{ℕ, ◌-◌}
use Rattle.std.specs.Prelude.{Ok}
use mathlib.Core.Path.{◌≡◌, sym, ap, ◌∙◌}
use mathlib.Core.Bool.{true}
use mir.Facts.{to_z-of_z}
use Rattle.signed.specs.Whole.{natural}
use Rattle.csi_rules.specs.Csi.{served, inside}
use Rattle.csi_rules.proofs.Cases.{levels_first, region_next, taken}
use Rattle.csi_region.proofs.region_of.Goals as goal

pub returns-then-not-is_served : goal.returns-then-not-is_served
returns-then-not-is_served c =
    sym (levels_first _ _ _ _ (sym c.is_served.ensures ∙ c.if-not-is_served.true))

pub returns-then-not-is_inside : goal.returns-then-not-is_inside
returns-then-not-is_inside c =
    let in-range : served c.args.shift c.args.depth ≡ true =
    sym c.is_served.ensures ∙ c.if-not-is_served.false
    in
    let tested : c.is_inside.result ≡ inside c.args.shift c.args.depth c.args.beg c.args.end =
    simp (to_z-of_z c.ranges.beg, to_z-of_z c.ranges.end) at c.is_inside.ensures
    in
    sym (region_next _ _ _ _ (in-range) (sym (tested) ∙ c.if-not-is_inside.true))

pub returns : goal.returns
returns c =
    let from : c.natural64.result ≡ natural c.args.beg =
    simp (to_z-of_z c.ranges.beg) at c.natural64.ensures
    in
    let to : c.natural64-2.result ≡ natural c.args.end =
    simp (to_z-of_z c.ranges.end) at c.natural64-2.ensures
    in
    let in-range : served c.args.shift c.args.depth ≡ true =
    sym c.is_served.ensures ∙ c.if-not-is_served.false
    in
    let tested : c.is_inside.result ≡ inside c.args.shift c.args.depth c.args.beg c.args.end =
    simp (to_z-of_z c.ranges.beg, to_z-of_z c.ranges.end) at c.is_inside.ensures
    in
    let is-in : inside c.args.shift c.args.depth c.args.beg c.args.end ≡ true =
    sym (tested) ∙ c.if-not-is_inside.false
    in
    ap (λ (x : ℕ). (Ok (record { first = x; last = c.natural64-2.result - 1 }))) (from)
    ∙ ap (λ (x : ℕ). (Ok (record { first = natural c.args.beg; last = x - 1 }))) (to)
    ∙ sym (taken c.args.beg c.args.end c.args.shift c.args.depth (in-range) (is-in))
