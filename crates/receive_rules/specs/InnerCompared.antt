-- What comparing comes to from a part on, for the functions of `receive`.
use Rattle.std.specs.Prelude.{ℕ, List, None, Option, Ok}
use Rattle.receive_rules.specs.declared.Part.{Part}
use Rattle.answers.specs.Answer.{Answer}
use Rattle.sam.specs.Bases.{packed}
use Rattle.sam.specs.Parts.{part, name_part, ops_part, bases_part, quals_part, tags_part, record_bases}
use Rattle.record_rules.specs.Written.{Change, new_name, new_ops}
use Rattle.receive_rules.specs.Receiving.{same, unless}
use Rattle.receive_rules.specs.declared.Part.TheVariants.{Name, Ops, Bases, Qualities, Tags}

-- bases and qualities, n of them from base `from` on, and tags
abbrev pub behind_ops : List ℕ → List ℕ → ℕ → ℕ → Answer (Option Part)
behind_ops g b from n =
    unless (same (bases_part g) (packed (part (record_bases b) from n))) Bases
    (unless (same (quals_part g) (part (quals_part b) from n)) Qualities
    (unless (same (tags_part g) (tags_part b)) Tags (Ok None)))

-- name and ops, and those
abbrev pub behind_header : List ℕ → List ℕ → Change → Answer (Option Part)
behind_header g b c =
    unless (same (name_part g) (new_name b c)) Name
    (unless (same (ops_part g) (new_ops b c)) Ops (behind_ops g b c.from c.len))
