-- An op of a text at a place, as the inner functions of the reader tell it; no public contract cites it. Document 01's rules stand in `text_rules`.
use Rattle.std.specs.Prelude.{ℕ, ◌+◌, ◌≤◌, ◌<◌, ◌≡◌, false, List, [], ◌∷◌, length, drop, Some, None, Option}
use Rattle.sam.specs.Op.{op_of, letter_code}
use Rattle.text_rules.specs.Text.{row_from, ops_from}
use Rattle.tokens.specs.declared.Token.{Token}

-- an op of the text s from place i on
pub record OpAt (s : List ℕ) (i len code next : ℕ) : Type 0 where
  pub ahead : i + 2 ≤ next
  pub inside : next ≤ length s
  pub some : 0 < len
  pub most : len ≤ 268435455
  pub known : code < 9
  pub row : row_from 0 false (drop i s) ≡ row_from 0 false (drop next s)
  pub ops : ops_from 0 (drop i s) ≡ op_of len code ∷ ops_from 0 (drop next s)

pub record NoneAt (s : List ℕ) (i : ℕ) : Type 0 where
  pub row : row_from 0 false (drop i s) ≡ false
  pub ops : ops_from 0 (drop i s) ≡ []

abbrev pub TokenAt : List ℕ → ℕ → Option Token → Type 0
TokenAt s i (Some got) = OpAt s i got.len got.code got.next
TokenAt s i None = NoneAt s i

-- the short form of the reader tells an op, or nothing
abbrev pub ShortAt : List ℕ → ℕ → Option Token → Type 0
ShortAt s i (Some got) = OpAt s i got.len got.code got.next
ShortAt s i None = Unit {0}

-- an op of this number and letter, if the letter is one
abbrev pub Lettered : ℕ → ℕ → ℕ → Option Token → Type 0
Lettered len letter next (Some got) = (got.len ≡ len) × (got.code ≡ letter_code letter) × (got.code ≤ 8) × (got.next ≡ next)
Lettered len letter next None = Unit {0}
