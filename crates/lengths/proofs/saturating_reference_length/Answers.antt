-- The sum over the list, clamped.
use Rattle.std.specs.Prelude.{Ok, ℕ, pos}
use Rattle.std.proofs.Common.{ap, ◌∙◌, lt-ltb, le-ltb, rules}
use Rattle.lists.specs.Lists.{sum_of}
use Rattle.signed.specs.Whole.{clamp32}
use Rattle.sam.specs.Op.{ref_len}
use Rattle.length_rules.specs.Lengths.{saturated_length}
use Rattle.lengths.proofs.saturating_reference_length.Goals as goal

pub returns-in_default : goal.returns-in_default
unfolding saturated_length
returns-in_default c = simp (lt-ltb _ _ c.in_default.ensures)

pub returns : goal.returns
unfolding saturated_length
returns c =
    simp (le-ltb _ _ c.in-Some.ensures.0)
    (ap Ok (search rules ∙ c.saturated.ensures ∙ ap (λ (n : ℕ). clamp32 (pos n)) (c.sums.ensures.refs_value.0 ∙ ap (sum_of ref_len) c.in-Some.ensures.1)))
