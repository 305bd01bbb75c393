-- What the call wrote and what the level wrote are two parts of the list.
use mathlib.Core.Path.{sym, ap, ◌∙◌}
use Rattle.lists.specs.Lists.{splice}
use Rattle.lists.proofs.ListLaws.{splice_one, two_parts}
use Rattle.csi_rules.specs.Csi.{level_bins, bins_up}
use native.Mathlib.Omega.{arith}
use native.Mathlib.Nat.{pos_of_ne-zero}
use Rattle.csi_levels.proofs.Up.{sound_up}
use Rattle.csi_levels.proofs.Listing.{restated, list_none, list_more, count_none, count_more}
use Prim.Native.Nat.{◌+◌, ◌-◌, ◌<◌}
use Rattle.csi_levels.proofs.+put_up.Goals as goal

pub bounds-out-0 : goal.bounds-out-0
bounds-out-0 t c =
    omega (arith, count_none c.args.shift c.args.beg c.args.last c.args.left c.if-left-eq0.true, c.requires.last_in_bounds)

pub returns-then-left-eq0 : goal.returns-then-left-eq0
returns-then-left-eq0 t c =
    let e = count_none c.args.shift c.args.beg c.args.last c.args.left c.if-left-eq0.true in
    (e, splice_one c.args.out.now 0 0 (omega (arith, c.requires.last_in_bounds)) ∙ sym (ap (splice c.args.out.now 0) (list_none c.args.shift c.args.beg c.args.last c.args.left c.if-left-eq0.true)))

pub put_up-at-requires : goal.put_up-at-requires
put_up-at-requires t c =
    let a = c.args in
    let h : 0 < a.left = pos_of_ne-zero c.if-left-eq0.false in
    let e = count_more a.shift a.beg a.last a.left h in
    let p = c.requires.last_in_bounds in
    (omega arith, (sound_up _ _ _ _ c.requires.sound h, omega arith))

pub put_numbers-requires : goal.put_numbers-requires
put_numbers-requires t c =
    let a = c.args in
    let h : 0 < a.left = pos_of_ne-zero c.if-left-eq0.false in
    let e = count_more a.shift a.beg a.last a.left h in
    let p = c.requires.last_in_bounds in
    let l = c.put_up-at.auto.out in
    let r = c.put_up-at.ensures.0 in
    let m = c.level_count-n.ensures in
    let b = c.bin_at.ensures.1 in
    (omega arith, omega arith)

pub overflow_add-result : goal.overflow_add-result
overflow_add-result t c =
    let a = c.args in
    let h : 0 < a.left = pos_of_ne-zero c.if-left-eq0.false in
    let e = count_more a.shift a.beg a.last a.left h in
    let p = c.requires.last_in_bounds in
    let r = c.put_up-at.ensures.0 in
    let m = c.level_count-n.ensures in
    omega arith

pub returns : goal.returns
returns t c =
    let a = c.args in
    let h : 0 < a.left = pos_of_ne-zero c.if-left-eq0.false in
    let e = count_more a.shift a.beg a.last a.left h in
    let p = c.requires.last_in_bounds in
    let r = c.put_up-at.ensures.0 in
    let m = c.level_count-n.ensures in (
      omega arith,
      two_parts a.out.now _ _ 0 c.put_up-at.result (bins_up (a.left - 1) (a.shift + 3) a.beg a.last) (level_bins a.left a.shift a.beg a.last) (omega arith) (omega arith) c.put_up-at.ensures.1 (restated _ _ _ _ _ _ _ c.put_numbers.ensures c.bin_at.ensures.0 m.0)
          ∙ sym (ap (splice a.out.now 0) (list_more a.shift a.beg a.last a.left h)),
    )
