-- What was passed and what is left are capital where all are.
use Rattle.std.proofs.Common.{◌≡◌, ◌&&◌, drop}
use Rattle.md_rules.specs.InnerWalk.{all_capital}
use Rattle.md_text.proofs.all_capital.Given as goal

abbrev pub invariant-loop-b : goal.invariant-loop-b
invariant-loop-b l = (l.all && all_capital (drop l.b-index l.letters)) ≡ all_capital l.letters
