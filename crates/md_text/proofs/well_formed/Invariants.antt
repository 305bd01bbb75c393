-- What is left of the text from i on is well formed where the whole is.
use mathlib.Core.Path.{◌≡◌}
use lib.ListN.{drop}
use Rattle.md_rules.specs.Md.{well_formed, fits}
use Rattle.md_text.proofs.well_formed.Given as goal

abbrev pub invariant-loop-b : goal.invariant-loop-b
invariant-loop-b l =
    fits l.p (drop l.b-index l.text) ≡ well_formed l.text
