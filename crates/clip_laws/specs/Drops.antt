-- SAM specification 1.4.6: what a clip does to an alignment's columns, whatever the list and the amount.
use Rattle.std.specs.Prelude.{ℕ, ◌≡◌, List, ◌++◌}
use Rattle.sam.specs.Columns.{Column, columns, refs}

-- the columns of ys are those of xs after a first part, which has so many reference bases
pub record Drops (xs ys : List ℕ) (lost : ℕ) : Type 0 where
  pub gone : List Column
  pub list_is : columns xs ≡ gone ++ columns ys
  pub lost_is : refs gone ≡ lost
