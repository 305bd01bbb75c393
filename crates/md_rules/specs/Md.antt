-- SAM optional fields specification, MD: whether a text is of the grammar, and its columns, byte by byte. That both are what `sam` says is proved (promises, MdLaws `grammar`).
use Rattle.std.specs.Prelude.{ℕ, ◌+◌, ◌-◌, ◌*◌, Bool, true, false, cond, List, [], ◌∷◌, ◌++◌, eqb, replicate}
use Rattle.sam.specs.Text.{is_digit}
use Rattle.sam.specs.Md.{is_capital, MdColumn, MdColumn.Match, MdColumn.Mismatch, MdColumn.Deleted}
use Rattle.md_rules.specs.declared.Place.{Place}
use Rattle.md_rules.specs.declared.Place.TheVariants.{Wants, Number, Caret, Letters, Wrong}

-- the place after a byte: where a number has to begin, in a number, behind `^`, in the letters behind `^`; or the text is no MD
abbrev pub next_place : Place → ℕ → Place
next_place Wants b = cond (is_digit b) Number Wrong
next_place Number b = cond (is_digit b) Number (cond (is_capital b) Wants (cond (eqb b 94) Caret Wrong))
next_place Caret b = cond (is_capital b) Letters Wrong
next_place Letters b = cond (is_capital b) Letters (cond (is_digit b) Number Wrong)
next_place Wrong b = Wrong

-- a text ends in a number
abbrev pub may_end : Place → Bool
may_end Wants = false
may_end Number = true
may_end Caret = false
may_end Letters = false
may_end Wrong = false

-- whether what is left of a text makes it well formed
unfoldable pub fits : Place → List ℕ → Bool
fits p [] = may_end p
fits p (b ∷ s) = fits (next_place p b) s

abbrev pub well_formed : List ℕ → Bool
well_formed s = fits Wants s

-- in a number that is n so far; behind `^` and n letters
pub data Within : Type 0 where
  InNumber : Within
  InLetters : Within

-- the columns of what is left of a text
unfoldable pub columns_from : Within → ℕ → List ℕ → List MdColumn
columns_from InNumber n [] = replicate n Match
columns_from InLetters n [] = []
columns_from InNumber n (b ∷ s) =
    cond (is_digit b) (columns_from InNumber (n * 10 + (b - 48)) s) (replicate n Match ++ cond (eqb b 94) (columns_from InLetters 0 s) (Mismatch ∷ columns_from InNumber 0 s))
columns_from InLetters n (b ∷ s) = cond (is_digit b) (Deleted n ∷ columns_from InNumber (b - 48) s) (columns_from InLetters (n + 1) s)

-- what a well formed text means
abbrev pub columns_of : List ℕ → List MdColumn
columns_of s = columns_from InNumber 0 s
