-- The specification's own examples, computed from its definitions: the alignments of 1.1 by their bases, r001/1 as a record, texts, clips that may
-- stand and that may not, the levels of bins.
use Prim.Native.Nat.{ℕ, ◌≤◌}
use mathlib.Core.Path.{◌≡◌, refl, ap}
use mathlib.Core.Bool.{true, false}
use mathlib.Core.List.{List, [], ◌∷◌}
use mathlib.Core.Logic.{⊎_elim}
use native.Mathlib.Omega.{arith}
use lib.IntN.{pos}
use lib.ListN.{length}
use Rattle.lists.specs.Lists.{sum_of}
use Rattle.signed.specs.Whole.{twos32}
use Rattle.sam.specs.Op.{is_query, is_ref, query_len, ref_len}
use Rattle.sam.specs.Record.{ref_id_of, pos_of, name_len_of, stored_bin_of, op_count_of, flags_of, seq_len_of, mate_ref_id_of, mate_pos_of, template_len_of, is_paired, is_unmapped, is_mate_unmapped, is_reverse, is_mate_reverse, ops_start, ops_in, bases_start, quals_start, tags_start}
use Rattle.sam.specs.Placement.{WellPlaced}
use Rattle.sam.specs.Text.{Digit, value, Spells, end, op}
use Rattle.sam.specs.Bins.{first_of, size_of, Holds}

-- 8M2I4M1D3M, 3S6M1P1I4M, 5S6M, 6M14N5M, 6H5M, 9M: their query and reference bases
abbrev Bases : List ℕ → ℕ → ℕ → Type 0
Bases xs query ref = (sum_of query_len xs ≡ query) × (sum_of ref_len xs ≡ ref)

abbrev r001 : List ℕ
r001 = 128 ∷ 33 ∷ 64 ∷ 18 ∷ 48 ∷ []

pub worked : Bases r001 17 16
    × Bases (52 ∷ 96 ∷ 22 ∷ 17 ∷ 64 ∷ []) 14 10
    × Bases (84 ∷ 96 ∷ []) 11 6
    × Bases (96 ∷ 227 ∷ 80 ∷ []) 11 25
    × Bases (101 ∷ 80 ∷ []) 5 5
    × Bases (144 ∷ []) 9 9
unfolding sum_of query_len ref_len is_query is_ref
worked = ((refl, refl), (refl, refl), (refl, refl), (refl, refl), (refl, refl), (refl, refl))

-- r001/1 as a record: at 7, its mate at 37 in reverse, template length 39, 17 bases, name `r001`
abbrev bytes : List ℕ
bytes = 0 ∷ 0 ∷ 0 ∷ 0 ∷ 6 ∷ 0 ∷ 0 ∷ 0 ∷ 5 ∷ 30 ∷ 73 ∷ 18 ∷ 5 ∷ 0 ∷ 99 ∷ 0 ∷ 17 ∷ 0 ∷ 0 ∷ 0 ∷ 0 ∷ 0 ∷ 0 ∷ 0 ∷ 36 ∷ 0 ∷ 0 ∷ 0 ∷ 39 ∷ 0 ∷ 0 ∷ 0
    ∷ 114 ∷ 48 ∷ 48 ∷ 49 ∷ 0 ∷ 128 ∷ 0 ∷ 0 ∷ 0 ∷ 33 ∷ 0 ∷ 0 ∷ 0 ∷ 64 ∷ 0 ∷ 0 ∷ 0 ∷ 18 ∷ 0 ∷ 0 ∷ 0 ∷ 48 ∷ 0 ∷ 0 ∷ 0 ∷ []

pub fixed_part : (ref_id_of bytes ≡ pos 0) × (pos_of bytes ≡ pos 6) × (name_len_of bytes ≡ 5) × (stored_bin_of bytes ≡ 4681) × (op_count_of bytes ≡ 5)
    × (flags_of bytes ≡ 99) × (seq_len_of bytes ≡ 17) × (mate_ref_id_of bytes ≡ pos 0) × (mate_pos_of bytes ≡ pos 36) × (template_len_of bytes ≡ pos 39)
unfolding twos32
fixed_part = (refl, refl, refl, refl, refl, refl, refl, refl, refl, refl)

-- 99 is paired, in proper pair, mate reverse, first
pub flag_bits : (is_paired 99 ≡ true) × (is_unmapped 99 ≡ false) × (is_mate_unmapped 99 ≡ false) × (is_reverse 99 ≡ false) × (is_mate_reverse 99 ≡ true)
flag_bits = (refl, refl, refl, refl, refl)

pub its_ops : ops_in bytes (ops_start bytes) (op_count_of bytes) ≡ r001
unfolding ops_in
its_ops = refl

-- 17 bases take nine bytes
pub its_parts : (bases_start bytes ≡ 57) × (quals_start bytes ≡ 66) × (tags_start bytes ≡ 83)
its_parts = (refl, refl, refl)

-- the text 010M spells 10M
pub ten_matches : Spells (48 ∷ 49 ∷ 48 ∷ 77 ∷ []) (160 ∷ [])
unfolding value
ten_matches = op 48 (49 ∷ 48 ∷ []) 0 (d 48 (omega arith) (omega arith), (d 49 (omega arith) (omega arith), (d 48 (omega arith) (omega arith), tt))) (omega arith) end
  where
    d : (b : ℕ) → 48 ≤ b → b ≤ 57 → Digit b
    d b l m = record { least = l; most = m }

-- 5S5S10M: an S between an S and the end
pub soft_behind_soft : WellPlaced (84 ∷ 84 ∷ 160 ∷ []) → ⊥
soft_behind_soft w = ⊎_elim (λ a. absurd (omega (arith, a.0))) (λ a. absurd (omega (arith, a.0))) (w.softs (84 ∷ []) 84 (160 ∷ []) refl refl)

-- 10M5H10M: an H inside
pub hard_inside : WellPlaced (160 ∷ 85 ∷ 160 ∷ []) → ⊥
hard_inside w = ⊎_elim no no (w.hards (160 ∷ []) 85 (160 ∷ []) refl refl)
  where
    no : ◌≡◌ {A = List ℕ} (160 ∷ []) [] → ⊥
    no e = absurd (omega (arith, ap length e))

-- 5.1.1: bin 0 spans 2^29 bases, bins 1 to 8 span 2^26, 9 to 72 2^23, 73 to 584 2^20, 585 to 4680 2^17, and 4681 to 37448 2^14
abbrev Spans : ℕ → ℕ → ℕ → Type 0
Spans level first size = (first_of level ≡ first) × (size_of 14 5 level ≡ size)

pub bai_levels : Spans 0 0 536870912 × Spans 1 1 67108864 × Spans 2 9 8388608 × Spans 3 73 1048576 × Spans 4 585 131072 × Spans 5 4681 16384 × (first_of 6 ≡ 37449)
unfolding first_of
bai_levels = ((refl, refl), (refl, refl), (refl, refl), (refl, refl), (refl, refl), (refl, refl), refl)

-- the first bin of a size holds as many places as its size, and no more
pub first_bin : (m : ℕ) → Holds m 0 0 m
first_bin m = record { from = omega arith; to = omega arith }

pub no_further : (m e : ℕ) → Holds m 0 0 e → e ≤ m
no_further m e h = omega (arith, h.to)
