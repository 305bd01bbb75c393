-- Document 02, item 13, the refusal table of `match_ops_from_md`: "20 malformed MD, 21 a list with = or X, 22 MD and list disagree; in this order after 3, before 6."
use Rattle.std.specs.Prelude.{ℕ, not, List, [], ◌∷◌, length}
use Rattle.lists.specs.Runs.{holds}
use Rattle.md_rules.specs.Md.{well_formed, columns_of}
use Rattle.md_rules.specs.Rule.{is_told, agrees, told}
use Rattle.promises.specs.Table.{Row, ◌when◌}
use Rattle.promises.specs.Rows.{too_many, no_room}

abbrev pub malformed_md : List ℕ → Row
malformed_md s = 20 when not (well_formed s)

abbrev pub matches_told : List ℕ → Row
matches_told xs = 21 when holds is_told xs

abbrev pub md_disagrees : List ℕ → List ℕ → Row
md_disagrees xs s = 22 when not (agrees xs (columns_of s))

abbrev pub md_rows : List ℕ → List ℕ → List ℕ → List Row
md_rows xs s d = too_many xs ∷ malformed_md s ∷ matches_told xs ∷ md_disagrees xs s ∷ no_room d (length (told xs (columns_of s))) ∷ []
