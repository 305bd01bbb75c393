-- Module 8 against the SAM specification's columns: "The 1-based query position of a reference position" is one more than the query bases in the columns
-- before the one that holds both; over a reference base alone, a D or N, it is none, or if asked the last query base before it, at least 1.
use Rattle.std.specs.Prelude.{ℕ, ◌+◌, ◌≤◌, ◌<◌, max, ◌≡◌, Bool, cond, List, ◌∷◌, ◌++◌, ◌⊎◌, length, Ok, Some, None, Option}
use Rattle.answers.specs.Answer.{Answer}
use Rattle.sam.specs.Columns.{Column, Both, Reference, queries, refs}

-- what the call answers for: at most so many ops as its limit says, and a start from 1 to 2^31
pub record InBounds (limit : ℕ) (xs : List ℕ) (start : ℕ) : Type 0 where
  pub few : length xs ≤ limit
  pub low : 1 ≤ start
  pub high : start ≤ 2147483648

pub data Reads (cs : List Column) (start at : ℕ) (asked : Bool) (r : Answer (Option ℕ)) : Type 0 where
  base : (left right : List Column) → cs ≡ left ++ (Both ∷ right) → start + refs left ≡ at → r ≡ Ok (Some (queries left + 1)) → Reads cs start at asked r
  gap : (left right : List Column) → cs ≡ left ++ (Reference ∷ right) → start + refs left ≡ at → r ≡ cond asked (Ok (Some (max (queries left) 1))) (Ok None) → Reads cs start at asked r
  off : (at < start) ⊎ (start + refs cs ≤ at) → r ≡ Ok None → Reads cs start at asked r
