-- SAM specification 1.4.6 and 4.2: an op is a number, its length times 16 plus its code; the table of ops.
use Rattle.std.specs.Prelude.{ℕ, suc, ◌+◌, ◌*◌, ◌/◌, ◌%◌, Bool, true, false, cond, List, [], ◌∷◌, get_or, eqb}

abbrev pub len_of : ℕ → ℕ
len_of o = o / 16

abbrev pub code_of : ℕ → ℕ
code_of o = o % 16

abbrev pub op_of : ℕ → ℕ → ℕ
op_of n c = n * 16 + c

-- the table, by code 0 to 8: the letters M I D N S H P = X
abbrev pub letters : List ℕ
letters = 77 ∷ 73 ∷ 68 ∷ 78 ∷ 83 ∷ 72 ∷ 80 ∷ 61 ∷ 88 ∷ []

-- where b first stands in a list, or the list's length
unfoldable pub index_of : ℕ → List ℕ → ℕ
index_of b [] = 0
index_of b (x ∷ xs) = cond (eqb b x) 0 (suc (index_of b xs))

-- a letter's code, 0 to 8; 9 for any other byte
unfoldable pub letter_code : ℕ → ℕ
letter_code b = index_of b letters

-- the table, "consumes query" and "consumes reference". No other code consumes anything
unfoldable pub is_query : ℕ → Bool
is_query c = get_or (true ∷ true ∷ false ∷ false ∷ true ∷ false ∷ false ∷ true ∷ true ∷ []) c false

unfoldable pub is_ref : ℕ → Bool
is_ref c = get_or (true ∷ false ∷ true ∷ true ∷ false ∷ false ∷ false ∷ true ∷ true ∷ []) c false

-- the query and reference bases of an op
unfoldable pub query_len : ℕ → ℕ
query_len o = cond (is_query (code_of o)) (len_of o) 0

unfoldable pub ref_len : ℕ → ℕ
ref_len o = cond (is_ref (code_of o)) (len_of o) 0
