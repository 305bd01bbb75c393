-- What was passed and what is left are capital where all are.
use Rattle.std.proofs.Common.{◌&&◌, ◌+◌, drop, ap, ◌∙◌, sym, Bool, arith, rules}
use Rattle.md_rules.specs.InnerWalk.{all_capital}
use Rattle.md_rules.proofs.PlaceLaws.{capital_turn, no_turn}
use Rattle.md_text.proofs.all_capital.Goals as goal

pub loop-b-preserved : goal.loop-b-preserved
loop-b-preserved c =
    ap (λ (t : Bool). (c.loop-b.all && t) && all_capital (drop (c.loop-b.b-index + 1) c.args.letters.now)) (search rules)
    ∙ sym (capital_turn c.args.letters.now c.loop-b.b-index c.loop-b.all (omega arith)) ∙ c.loop-b.invariant

pub returns : goal.returns
returns c = sym (no_turn c.args.letters.now c.loop-b.b-index c.loop-b.all (omega arith)) ∙ c.loop-b.invariant
