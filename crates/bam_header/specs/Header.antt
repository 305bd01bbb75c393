-- SAM specification 4.2, the head of an uncompressed BAM stream, all numbers little-endian: "magic, char[4], BAM\1; l_text, uint32_t; text, char[l_text]; n_ref, uint32_t";
-- then, n_ref times, "l_name, uint32_t; name, char[l_name]; l_ref, uint32_t"; then the records.
use Rattle.std.specs.Prelude.{ℕ, zero, suc, Bool, false, cond, ◌&&◌, List, ltb, eqb, length, drop}
use Rattle.sam.specs.Record.{byte_at, le32}

-- what a stream comes to: its records, as bytes; or its head is cut short; or it is no BAM stream
pub data Head : Type 0 where
  Records : List ℕ → Head
  CutShort : Head
  NotBam : Head

-- "magic": B A M 1
unfoldable pub is_bam : List ℕ → Bool
is_bam s = cond (ltb (length s) 4) false (eqb (byte_at s 0) 66 && (eqb (byte_at s 1) 65 && (eqb (byte_at s 2) 77 && eqb (byte_at s 3) 1)))

-- so many bytes, whatever they are, and what follows them
unfoldable pub past_bytes : ℕ → (List ℕ → Head) → List ℕ → Head
past_bytes size f s = cond (ltb (length s) size) CutShort (f (drop size s))

-- a number, and what follows it
unfoldable pub past_number : (ℕ → List ℕ → Head) → List ℕ → Head
past_number f s = cond (ltb (length s) 4) CutShort (f (le32 s 0) (drop 4 s))

-- "l_name; name; l_ref", so many times, and the records
unfoldable pub references : ℕ → List ℕ → Head
references zero s = Records s
references (suc n) s = past_number (λ size. past_bytes size (past_bytes 4 (references n))) s

-- "n_ref"
unfoldable pub counted : List ℕ → Head
counted s = past_number references s

-- "l_text; text"
unfoldable pub texted : List ℕ → Head
texted s = past_number (λ size. past_bytes size counted) s

-- a whole stream
unfoldable pub head_of : List ℕ → Head
head_of s = cond (is_bam s) (texted (drop 4 s)) NotBam
