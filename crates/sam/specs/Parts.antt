-- SAM specification 4.2: the parts of a record, one after the other: 32 bytes of header, the name, the ops, the packed bases, the qualities, and the tags to its end.
use Rattle.std.specs.Prelude.{ℕ, ◌*◌, ◌/◌, ◌%◌, List, [], ◌∷◌, take, drop}
use Rattle.sam.specs.Record.{name_len_of, op_count_of, seq_len_of, ops_start, bases_start, quals_start, tags_start}
use Rattle.sam.specs.Bases.{bases_of, packed_size}

-- n elements from a place on
abbrev pub part : List ℕ → ℕ → ℕ → List ℕ
part b at n = take n (drop at b)

abbrev pub header_part : List ℕ → List ℕ
header_part b = part b 0 32

abbrev pub name_part : List ℕ → List ℕ
name_part b = part b 32 (name_len_of b)

abbrev pub ops_part : List ℕ → List ℕ
ops_part b = part b (ops_start b) (4 * op_count_of b)

abbrev pub bases_part : List ℕ → List ℕ
bases_part b = part b (bases_start b) (packed_size (seq_len_of b))

abbrev pub quals_part : List ℕ → List ℕ
quals_part b = part b (quals_start b) (seq_len_of b)

abbrev pub tags_part : List ℕ → List ℕ
tags_part b = drop (tags_start b) b

-- its l_seq bases
abbrev pub record_bases : List ℕ → List ℕ
record_bases b = take (seq_len_of b) (bases_of (bases_part b))

-- the bytes of a number of 16 bits
abbrev pub uint16 : ℕ → List ℕ
uint16 n = n % 256 ∷ n / 256 % 256 ∷ []
