-- SAM specification 4.2.4, a record's tags, one after the other: "tag, char[2]; val_type, char; value, by val_type". A, c and C have one byte, s and S two, i, I and f
-- four; Z and H are text up to its NUL; B is an array: a type of number (one of cCsSiIf), a count of 32 bits, and so many numbers.
-- 4.2.2: of over 65,535 ops a record holds the list "in the CG optional tag of type B,I, and sets CIGAR to kSmN as a placeholder, where k equals l_seq".
use Rattle.std.specs.Prelude.{ℕ, zero, suc, ◌+◌, ◌-◌, ◌*◌, Bool, true, false, cond, ◌&&◌, List, [], ◌∷◌, ltb, eqb, length, get_or, take, drop}
use Rattle.sam.specs.Op.{len_of, code_of}
use Rattle.sam.specs.Record.{byte_at, le32}

-- ---- sizes, in bytes. Each is 0 where a type is not listed, and where the bytes end before it can be told

-- whether a type is one of some
abbrev pub among : ℕ → List ℕ → Bool
among k [] = false
among k (x ∷ xs) = cond (eqb k x) true (among k xs)

-- a number: c C, s S, i I f
unfoldable pub number_size : ℕ → ℕ
number_size k =
    cond (among k (99 ∷ 67 ∷ [])) 1
    (cond (among k (115 ∷ 83 ∷ [])) 2
    (cond (among k (105 ∷ 73 ∷ 102 ∷ [])) 4 0))

-- text with its NUL; where there is none, one byte more than there are
unfoldable pub to_nul : List ℕ → ℕ
to_nul [] = 1
to_nul (x ∷ s) = cond (eqb x 0) 1 (1 + to_nul s)

-- an array at the front of s, with its type and its count
unfoldable pub array_size : List ℕ → ℕ
array_size s =
    cond (ltb (length s) 5) 0
    (cond (eqb (number_size (byte_at s 0)) 0) 0 (5 + number_size (byte_at s 0) * le32 s 1))

-- a value of type k at the front of s: A; Z H; B; a number
unfoldable pub value_size : ℕ → List ℕ → ℕ
value_size k s =
    cond (among k (65 ∷ [])) 1
    (cond (among k (90 ∷ 72 ∷ [])) (to_nul s)
    (cond (among k (66 ∷ [])) (array_size s) (number_size k)))

-- a tag at the front of s; 0 where it overruns too
unfoldable pub tag_size : List ℕ → ℕ
tag_size s =
    cond (ltb (length s) 3) 0
    (cond (eqb (value_size (byte_at s 2) (drop 3 s)) 0) 0
    (cond (ltb (length s) (3 + value_size (byte_at s 2) (drop 3 s))) 0 (3 + value_size (byte_at s 2) (drop 3 s))))

-- ---- tags

-- the two bytes of its name, its type, and the bytes of its value
pub record Tag : Type 0 where
  pub first : ℕ
  pub second : ℕ
  pub kind : ℕ
  pub value : List ℕ

unfoldable pub tag_at : List ℕ → Tag
tag_at s = record { first = byte_at s 0; second = byte_at s 1; kind = byte_at s 2; value = take (tag_size s - 3) (drop 3 s) }

-- a list of tags, to the end of the bytes, or to a tag that overruns or has a type that is not listed
pub data Tags : Type 0 where
  Ends : Tags
  Breaks : Tags
  Then : Tag → Tags → Tags

-- the tags of the bytes behind the next n
unfoldable pub tags_behind : ℕ → List ℕ → Tags
tags_behind n [] = Ends
tags_behind zero (x ∷ s) = cond (eqb (tag_size (x ∷ s)) 0) Breaks (Then (tag_at (x ∷ s)) (tags_behind (tag_size (x ∷ s) - 1) s))
tags_behind (suc n) (x ∷ s) = tags_behind n s

abbrev pub tags_of : List ℕ → Tags
tags_of s = tags_behind 0 s

-- ---- the ops in CG

-- CG
unfoldable pub is_cg : Tag → Bool
is_cg t = eqb t.first 67 && eqb t.second 71

-- "of type B,I": an array of unsigned numbers of 32 bits
unfoldable pub is_op_array : Tag → Bool
is_op_array t = eqb t.kind 66 && eqb (byte_at t.value 0) 73

-- the count of an array
abbrev pub array_count : Tag → ℕ
array_count t = le32 t.value 1

-- "kSmN": two ops, S of the sequence's length k, and N of any length
unfoldable pub is_placeholder : ℕ → List ℕ → Bool
is_placeholder k xs =
    eqb (length xs) 2
    && (eqb (code_of (get_or xs 0 0)) 4 && (eqb (len_of (get_or xs 0 0)) k && eqb (code_of (get_or xs 1 0)) 3))
