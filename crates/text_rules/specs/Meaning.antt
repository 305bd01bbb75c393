-- SAM specification 1.4.6: which lists and texts `is_valid_mapped_cigar` and the strict reader take, in the specification's words: the sentences on
-- H and S (`WellPlaced`), lengths from 1, the ops of the table, a reference op; for a text its grammar (`Spells`), with lengths to 268,435,455.
use Rattle.std.specs.Prelude.{ℕ, ◌≤◌, ◌<◌, ◌≡◌, true, List, ◌∷◌, ◌++◌}
use Rattle.lists.specs.Lists.{Each}
use Rattle.sam.specs.Op.{len_of, code_of, is_ref}
use Rattle.sam.specs.Placement.{WellPlaced}
use Rattle.sam.specs.Text.{Spells}

pub record HasReference (xs : List ℕ) : Type 0 where
  pub left : List ℕ
  pub op : ℕ
  pub right : List ℕ
  pub split : xs ≡ left ++ (op ∷ right)
  pub reference : is_ref (code_of op) ≡ true

pub record Mapped (xs : List ℕ) : Type 0 where
  pub lengths : Each (λ o. 0 < len_of o) xs
  pub codes : Each (λ o. code_of o < 9) xs
  pub placed : WellPlaced xs
  pub reference : HasReference xs

pub record MappedText (s xs : List ℕ) : Type 0 where
  pub spells : Spells s xs
  pub fits : Each (λ o. len_of o ≤ 268435455) xs
  pub mapped : Mapped xs
