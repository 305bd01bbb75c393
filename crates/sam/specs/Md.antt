-- SAM optional fields specification, the tag MD: `[0-9]+(([A-Z]|\^[A-Z]+)[0-9]+)*`, and what a text says of an alignment, column by column.
-- A number is so many bases that match, a letter the reference's base at a mismatch, `^` and letters the reference's bases that the read lacks.
use Rattle.std.specs.Prelude.{ℕ, ◌≤◌, Bool, cond, ◌&&◌, List, [], ◌∷◌, ◌++◌, ltb, leb, eqb, length, replicate}
use Rattle.lists.specs.Lists.{Each}
use Rattle.sam.specs.Op.{len_of, code_of}
use Rattle.sam.specs.Text.{Digits, value}

-- the bytes A to Z
pub record Capital (b : ℕ) : Type 0 where
  pub least : 65 ≤ b
  pub most : b ≤ 90

abbrev pub Capitals : List ℕ → Type 0
Capitals bs = Each Capital bs

-- the same as a test
abbrev pub is_capital : ℕ → Bool
is_capital b = leb 65 b && leb b 90

-- a base that matches, a base that does not; the reference bases behind one `^`, which the read lacks, are one column
pub data MdColumn : Type 0 where
  Match : MdColumn
  Mismatch : MdColumn
  Deleted : ℕ → MdColumn

-- the grammar, a number and any number of times a letter or `^` and letters, and a number: the text, and the columns that it means
pub data SpellsMd : List ℕ → List MdColumn → Type 0 where
  number : (d : ℕ) (ds : List ℕ) → Digits (d ∷ ds) → SpellsMd (d ∷ ds) (replicate (value 0 (d ∷ ds)) Match)
  letter : (d : ℕ) (ds : List ℕ) (b : ℕ) {s : List ℕ} {cs : List MdColumn} → Digits (d ∷ ds) → Capital b → SpellsMd s cs
      → SpellsMd ((d ∷ ds) ++ (b ∷ s)) (replicate (value 0 (d ∷ ds)) Match ++ (Mismatch ∷ cs))
  caret : (d : ℕ) (ds : List ℕ) (b : ℕ) (bs : List ℕ) {s : List ℕ} {cs : List MdColumn} → Digits (d ∷ ds) → Capitals (b ∷ bs) → SpellsMd s cs
      → SpellsMd ((d ∷ ds) ++ (94 ∷ ((b ∷ bs) ++ s))) (replicate (value 0 (d ∷ ds)) Match ++ (Deleted (length (b ∷ bs)) ∷ cs))

-- the columns that an op of a code and a length spells: = matches, X mismatches, a D of nonzero length what one `^` tells; any other op none
abbrev pub md_spell : ℕ → ℕ → List MdColumn
md_spell c n = cond (eqb c 7) (replicate n Match) (cond (eqb c 8) (replicate n Mismatch) (cond (eqb c 2 && ltb 0 n) (Deleted n ∷ []) []))

unfoldable pub md_columns : List ℕ → List MdColumn
md_columns [] = []
md_columns (o ∷ xs) = md_spell (code_of o) (len_of o) ++ md_columns xs
