-- Document 01, module 6: "Reads any bytes. A missing number, or one above 2^31-1, counts 0." What a text says: its leading S and H, its reference length, and S and H after the last reference letter.
use Rattle.std.specs.Prelude.{ℕ, ◌+◌, Bool, cond, List, [], ◌∷◌, ℤ, pos}
use Rattle.lists.specs.Runs.{leading, after_last}
use Rattle.signed.specs.Whole.{clamp32}
use Rattle.sam.specs.Op.{letter_code, is_ref}
use Rattle.sam.specs.Text.{value, is_digit}
use Rattle.ops.specs.Ops.{is_clip}
use Rattle.mate_rules.specs.Run.{counts_as}

-- this reader's letters, by the specification's table: those of the reference, M D N = X, and those of clips, S H; any other byte is neither
unfoldable pub is_ref_letter : ℕ → Bool
is_ref_letter b = is_ref (letter_code b)

unfoldable pub is_clip_letter : ℕ → Bool
is_clip_letter b = is_clip (letter_code b)

-- digits, any number of them or none, and the byte after them that is no digit
pub record Piece : Type 0 where
  pub digits : List ℕ
  pub letter : ℕ

-- a digit in front belongs to the first piece; digits with no byte after them are no piece
abbrev pub with_digit : ℕ → List Piece → List Piece
with_digit b [] = []
with_digit b (p ∷ ps) = record { digits = b ∷ p.digits; letter = p.letter } ∷ ps

-- the pieces of any bytes
unfoldable pub pieces : List ℕ → List Piece
pieces [] = []
pieces (b ∷ s) = cond (is_digit b) (with_digit b (pieces s)) (record { digits = []; letter = b } ∷ pieces s)

-- what a piece counts: its decimal number, however long, 0 where it is missing or above 2^31 - 1
abbrev pub counts : Piece → ℕ
counts p = counts_as (value 0 p.digits)

unfoldable pub total : (Piece → ℕ) → List Piece → ℕ
total f [] = 0
total f (p ∷ ps) = f p + total f ps

abbrev pub is_ref_piece : Piece → Bool
is_ref_piece p = is_ref_letter p.letter

abbrev pub is_clip_piece : Piece → Bool
is_clip_piece p = is_clip_letter p.letter

-- what it counts of the reference, and of clips
abbrev pub ref_count : Piece → ℕ
ref_count p = cond (is_ref_piece p) (counts p) 0

abbrev pub clip_count : Piece → ℕ
clip_count p = cond (is_clip_piece p) (counts p) 0

-- "leading S and H"
unfoldable pub mate_leading : List ℕ → ℕ
mate_leading s = total counts (leading is_clip_piece (pieces s))

-- "reference length"
unfoldable pub mate_reference : List ℕ → ℕ
mate_reference s = total ref_count (pieces s)

-- "S and H after the last reference letter"
unfoldable pub mate_trailing : List ℕ → ℕ
mate_trailing s = total clip_count (after_last is_ref_piece (pieces s))

-- a sum of counts, each step of which saturates: no count is negative, so it is the sum, at most 2^31 - 1
abbrev pub capped : ℕ → ℤ
capped n = clamp32 (pos n)
