-- SAM specification 4.2 and 1.4.2: a record's layout behind its block size, all numbers little-endian; the bits of its flag; its ops; where its bases, qualities and tags begin.
use Rattle.std.specs.Prelude.{ℕ, zero, suc, ◌+◌, ◌*◌, ◌/◌, ◌%◌, Bool, List, [], ◌∷◌, ◌++◌, ℤ, length, get_or, ltb, eqb}
use Rattle.signed.specs.Whole.{twos32}

-- numbers at a place; past the end a byte counts 0
abbrev pub byte_at : List ℕ → ℕ → ℕ
byte_at b i = get_or b i 0

abbrev pub le16 : List ℕ → ℕ → ℕ
le16 b i = byte_at b i + 256 * byte_at b (i + 1)

abbrev pub le32 : List ℕ → ℕ → ℕ
le32 b i = byte_at b i + 256 * byte_at b (i + 1) + 65536 * byte_at b (i + 2) + 16777216 * byte_at b (i + 3)

abbrev pub int32 : List ℕ → ℕ → ℤ
int32 b i = twos32 (le32 b i)

-- the fixed part has 32 bytes
abbrev pub is_short : List ℕ → Bool
is_short b = ltb (length b) 32

abbrev pub ref_id_of : List ℕ → ℤ
ref_id_of b = int32 b 0

abbrev pub pos_of : List ℕ → ℤ
pos_of b = int32 b 4

abbrev pub name_len_of : List ℕ → ℕ
name_len_of b = byte_at b 8

abbrev pub stored_bin_of : List ℕ → ℕ
stored_bin_of b = le16 b 10

abbrev pub op_count_of : List ℕ → ℕ
op_count_of b = le16 b 12

abbrev pub flags_of : List ℕ → ℕ
flags_of b = le16 b 14

abbrev pub seq_len_of : List ℕ → ℕ
seq_len_of b = le32 b 16

abbrev pub mate_ref_id_of : List ℕ → ℤ
mate_ref_id_of b = int32 b 20

abbrev pub mate_pos_of : List ℕ → ℤ
mate_pos_of b = int32 b 24

abbrev pub template_len_of : List ℕ → ℤ
template_len_of b = int32 b 28

-- 1.4.2: the bits of the flag
abbrev pub has_bit : ℕ → ℕ → Bool
has_bit bit f = eqb (f / bit % 2) 1

abbrev pub is_paired : ℕ → Bool
is_paired f = has_bit 1 f

abbrev pub is_unmapped : ℕ → Bool
is_unmapped f = has_bit 4 f

abbrev pub is_mate_unmapped : ℕ → Bool
is_mate_unmapped f = has_bit 8 f

abbrev pub is_reverse : ℕ → Bool
is_reverse f = has_bit 16 f

abbrev pub is_mate_reverse : ℕ → Bool
is_mate_reverse f = has_bit 32 f

-- the ops stand behind the name
abbrev pub ops_start : List ℕ → ℕ
ops_start b = 32 + name_len_of b

abbrev pub ops_end : List ℕ → ℕ
ops_end b = ops_start b + 4 * op_count_of b

-- the n ops that lie in b from a place on
unfoldable pub ops_in : List ℕ → ℕ → ℕ → List ℕ
ops_in b at zero = []
ops_in b at (suc n) = le32 b at ∷ ops_in b (at + 4) n

-- behind the ops the bases, two to a byte, then the qualities, one a byte, and the tags to the record's end
abbrev pub bases_start : List ℕ → ℕ
bases_start b = ops_end b

abbrev pub quals_start : List ℕ → ℕ
quals_start b = bases_start b + (seq_len_of b + 1) / 2

abbrev pub tags_start : List ℕ → ℕ
tags_start b = quals_start b + seq_len_of b

-- the bytes of a number of 32 bits
abbrev pub uint32 : ℕ → List ℕ
uint32 n = n % 256 ∷ n / 256 % 256 ∷ n / 256 / 256 % 256 ∷ n / 256 / 256 / 256 % 256 ∷ []

-- and of ops
unfoldable pub op_bytes : List ℕ → List ℕ
op_bytes [] = []
op_bytes (o ∷ xs) = uint32 o ++ op_bytes xs
