-- The table passes its rule at all entries, so that the byte's entry is what is read.
use Prim.Native.Nat.{ℕ}
use mathlib.Core.Path.{◌≡◌, refl}
use mathlib.Core.Bool.{true}
use mathlib.Core.List.{List}
use borrow.Author.Rules.{rules}
use Rattle.lists.proofs.Tables.{below}
use Rattle.sam.specs.Op.{index_of, letter_code}
use Rattle.letters.specs.Letters.{entry_of}
use Rattle.letters.specs.InnerRow.{row_of}
use Rattle.letters.proofs.Table.{right, at_byte}
use Rattle.letters.proofs.code_at.Goals as goal

-- the table that `row` was handed
abbrev handed : (codes : List ℕ) (row n : ℕ) → row ≡ row_of codes n → List ℕ
handed codes row n e = codes

abbrev table : goal.After-row → List ℕ
table c = handed _ _ _ c.row.ensures

-- THE RULE of the table, computed over all its entries
rule : (c : goal.After-row) → below (right (table c)) 256 ≡ true
unfolding row_of entry_of letter_code index_of
rule c = refl

pub returns : goal.returns
returns c = at_byte (table c) c.args.b c.row.result c.row.ensures (search rules) (rule c)
