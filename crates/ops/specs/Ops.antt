-- Document 01, module 2: "Codes 0 to 8 are M I D N S H P = X. `consumes_read`: M I = X. Codes 9 to 15 consume nothing".
-- What a code consumes and its letter are the specification's own table (crate `sam`).
use Rattle.std.specs.Prelude.{ℕ, Bool, true, false, cond, List, [], ◌∷◌, get_or}
use Rattle.sam.specs.Op.{len_of, code_of, letters}

-- M I = X: the codes of read bases; a larger code is none
abbrev pub reads : List Bool
reads = true ∷ true ∷ false ∷ false ∷ false ∷ false ∷ false ∷ true ∷ true ∷ []

unfoldable pub is_read : ℕ → Bool
is_read c = get_or reads c false

unfoldable pub read_len : ℕ → ℕ
unfolding is_read
read_len o = cond (is_read (code_of o)) (len_of o) 0

-- S and H
unfoldable pub is_clip : ℕ → Bool
is_clip c = get_or (false ∷ false ∷ false ∷ false ∷ true ∷ true ∷ []) c false

-- a code's letter, 0 where there is none
unfoldable pub letter_of : ℕ → ℕ
letter_of c = get_or letters c 0
