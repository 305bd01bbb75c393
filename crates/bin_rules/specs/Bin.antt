-- Document 01, module 11: "Offsets 4681, 585, 73, 9, 1 at shifts 14, 17, 20, 23, 26: the first shift at which beg and end-1 agree; else 0.
-- The low 16 bits are kept." On every pair of i32; shifts round down.
use Rattle.std.specs.Prelude.{ℕ, ◌-◌, ◌/◌, ◌%◌, ◌^◌, cond, List, [], ◌∷◌, set, ℤ, pos, negsuc, ◌+ℤ◌, ◌-ℤ◌, Err, None, Ok, Option, Some}
use Rattle.answers.specs.Answer.{Answer}
use Rattle.std.specs.Int.Signed.{shr_z, lt_z}
use Rattle.signed.specs.Equal.{eqℤ}
use Rattle.signed.specs.Whole.{checked}
use Rattle.sam.specs.Record.{pos_of, is_short}
use Rattle.length_rules.specs.Lengths.{checked_ref_length}
use Rattle.answers.specs.Settled.{Outcome, keeps}
use Rattle.answers.specs.declared.Refusal.TheVariants.{Overflow, ShortRecord}

-- z / 2^k, rounded down
abbrev pub shr : ℤ → ℕ → ℤ
shr z k = shr_z z (2 ^ k)

-- a shift and its offset
pub record Shift : Type 0 where
  pub shift : ℕ
  pub offset : ℕ

abbrev pub shifts : List Shift
shifts =
    record { shift = 14; offset = 4681 }
    ∷ record { shift = 17; offset = 585 }
    ∷ record { shift = 20; offset = 73 }
    ∷ record { shift = 23; offset = 9 }
    ∷ record { shift = 26; offset = 1 }
    ∷ []

-- the first shift at which the ends agree; else 0
unfoldable pub first_agreed : List Shift → ℤ → ℤ → ℤ
first_agreed [] beg last = pos 0
first_agreed (l ∷ ls) beg last =
    cond (eqℤ (shr beg l.shift) (shr last l.shift)) (pos l.offset +ℤ shr beg l.shift) (first_agreed ls beg last)

abbrev pub bin_of : ℤ → ℤ → ℤ
bin_of beg last = first_agreed shifts beg last

-- the low 16 bits of a number in two's complement
unfoldable pub low16 : ℤ → ℕ
low16 (pos n) = n % 65536
low16 (negsuc n) = 65535 - n % 65536

-- refusal 4 where `end - 1` overflows
unfoldable pub bin_to : ℤ → Option ℤ → Answer ℕ
bin_to beg (Some last) = Ok (low16 (bin_of beg last))
bin_to beg None = Err Overflow

unfoldable pub reg2bin : ℤ → ℤ → Answer ℕ
unfolding bin_to
reg2bin beg end = bin_to beg (checked (end -ℤ pos 1))

-- "the reference length is taken as at least 1"
abbrev pub span_of : ℤ → ℤ
span_of z = cond (lt_z z (pos 1)) (pos 1) z

-- refusal 4 where the end overflows
unfoldable pub bin_up_to : ℤ → Option ℤ → Answer ℕ
unfolding reg2bin
bin_up_to beg (Some end) = reg2bin beg end
bin_up_to beg None = Err Overflow

-- of a region of that length; a refused length is passed on
unfoldable pub bin_from : ℤ → Answer ℤ → Answer ℕ
unfolding bin_up_to
bin_from beg (Ok n) = bin_up_to beg (checked (beg +ℤ span_of n))
bin_from beg (Err r) = Err r

-- a record's bin: 1; "a record with `pos` below 0 has 4680", and document 02, item 7: "because that test comes first"; 2 and 4 of its length, 4 of the end
unfoldable pub record_bin : List ℕ → Answer ℕ
unfolding bin_from
record_bin b =
    cond (is_short b) (Err ShortRecord)
    (cond (lt_z (pos_of b) (pos 0)) (Ok 4680)
    (bin_from (pos_of b) (checked_ref_length b)))

-- "`set_bin_from_raw_bam` writes bytes 10 and 11 only", the low byte first
abbrev pub with_bin : List ℕ → Answer ℕ → Outcome (Answer ℕ)
with_bin b (Ok n) = record { answer = Ok n; left = set (set b 10 (n % 256)) 11 (n / 256 % 256) }
with_bin b (Err r) = keeps (Err r) b

unfoldable pub set_bin : List ℕ → Outcome (Answer ℕ)
unfolding record_bin
set_bin b = with_bin b (record_bin b)
