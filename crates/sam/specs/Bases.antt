-- SAM specification 4.2.3: a record's bases are packed two to a byte, each a number of four bits, "the first base in the high 4 bits of the first byte"; of an odd number
-- "the bottom 4 bits of the last byte" are 0 in what is written, and count for nothing in what is read.
use Rattle.std.specs.Prelude.{ℕ, ◌+◌, ◌*◌, ◌/◌, ◌%◌, List, [], ◌∷◌}

-- the bases that bytes hold
unfoldable pub bases_of : List ℕ → List ℕ
bases_of [] = []
bases_of (x ∷ s) = x / 16 % 16 ∷ x % 16 ∷ bases_of s

-- the bytes that hold bases
unfoldable pub packed : List ℕ → List ℕ
packed [] = []
packed (h ∷ []) = h * 16 ∷ []
packed (h ∷ l ∷ bs) = (h * 16 + l) ∷ packed bs

-- how many bytes n bases take
abbrev pub packed_size : ℕ → ℕ
packed_size n = (n + 1) / 2
