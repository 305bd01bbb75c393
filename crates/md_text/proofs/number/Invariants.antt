-- The number so far and the text behind it have the columns of all.
use Prim.Native.Nat.{◌≤◌, ◌<◌}
use mathlib.Core.Path.{◌≡◌}
use mathlib.Core.Bool.{true}
use lib.ListN.{get_or, length, drop}
use Rattle.sam.specs.Text.{is_digit}
use Rattle.md_rules.specs.Md.{fits, Within.InNumber, columns_from}
use Rattle.md_rules.specs.InnerWalk.{most}
use Rattle.md_rules.specs.declared.Place.TheVariants.{Wants, Number}
use Rattle.md_text.proofs.number.Given as goal

abbrev pub invariant-loop-at : goal.invariant-loop-at
invariant-loop-at l =
    (l.from < l.at)
    × (l.at ≤ length l.text)
    × (l.n ≤ most)
    × (is_digit (get_or l.text l.from 0) ≡ true)
    × (fits Wants (drop l.from l.text) ≡ fits Number (drop l.at l.text))
    × (columns_from InNumber 0 (drop l.from l.text) ≡ columns_from InNumber l.n (drop l.at l.text))
