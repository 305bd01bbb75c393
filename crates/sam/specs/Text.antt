-- SAM specification 1.4.6, the grammar of CIGAR text, `([0-9]+[MIDNSHPX=])+`, and the ops that a text spells.
-- Where the grammar has `*` is for the calls that read and print to say.
use Rattle.std.specs.Prelude.{ℕ, ◌+◌, ◌-◌, ◌*◌, ◌≤◌, ◌<◌, Bool, ◌&&◌, List, [], ◌∷◌, ◌++◌, leb, length, get_or}
use Rattle.lists.specs.Lists.{Each}
use Rattle.sam.specs.Op.{op_of, letters}

-- the bytes 0 to 9
pub record Digit (b : ℕ) : Type 0 where
  pub least : 48 ≤ b
  pub most : b ≤ 57

abbrev pub Digits : List ℕ → Type 0
Digits ds = Each Digit ds

-- the same as a test
abbrev pub is_digit : ℕ → Bool
is_digit b = leb 48 b && leb b 57

-- the decimal number of digits that follow the number m
unfoldable pub value : ℕ → List ℕ → ℕ
value m [] = m
value m (b ∷ ds) = value (m * 10 + (b - 48)) ds

-- one or more digits and a letter, any number of times: the text, and the ops that it spells
pub data Spells : List ℕ → List ℕ → Type 0 where
  end : Spells [] []
  op : (d : ℕ) (ds : List ℕ) (code : ℕ) {s ops : List ℕ} → Digits (d ∷ ds) → code < 9 → Spells s ops
      → Spells ((d ∷ ds) ++ (get_or letters code 0 ∷ s)) (op_of (value 0 (d ∷ ds)) code ∷ ops)

-- the grammar: once or more
pub record Cigar (s ops : List ℕ) : Type 0 where
  pub spells : Spells s ops
  pub some : 0 < length ops
