-- Document 02, item 7: "Demand 2 equals Rust from then on for records where the length is given or not asked for". Document 01's 0 for 2 and 4 stands here alone, for what ends, bins and
-- pair tests answered before: where the length is given, or is not asked for, they answer it still.
use Prim.Native.Nat.{ℕ}
use Rattle.std.specs.Prelude.{Err, None, Ok, Option, ℤ}
use Rattle.answers.specs.Answer.{Answer}
use Rattle.answers.specs.declared.Pos1.{Pos1}
use mathlib.Core.Path.{◌≡◌, refl, ap}
use mathlib.Core.Bool.{Bool, true, false, cond, ◌&&◌}
use mathlib.Core.List.{List}
use lib.IntN.{pos}
use lib.Signed.{lt_z}
use Rattle.lists.proofs.Absurd.{never}
use Rattle.sam.specs.Record.{pos_of, flags_of, mate_pos_of, is_reverse, is_short}
use Rattle.answers.specs.declared.Refusal.TheVariants.{ShortRecord}
use Rattle.length_rules.specs.Lengths.{checked_ref_length}
use Rattle.ends_rules.specs.Ends.{end_at, alignment_end}
use Rattle.bin_rules.specs.Bin.{bin_from, record_bin}
use Rattle.pairs_rules.specs.Pairs.{is_opposite, starts_before_end, mate_starts_before, fr_by}

-- "`reference_length_from_raw_bam` answers 0 for 1, 2 and 4"
abbrev length_before : Answer ℤ → Answer ℤ
length_before (Ok n) = Ok n
length_before (Err r) = Ok (pos 0)

abbrev is_given : Answer ℤ → Bool
is_given (Ok n) = true
is_given (Err r) = false

-- the calls of a record whose length is n
abbrev end_by : List ℕ → Answer ℤ → Answer (Option Pos1)
end_by b n = cond (is_short b) (Err ShortRecord) (cond (lt_z (pos_of b) (pos 0)) (Ok None) (end_at (pos_of b) n))

abbrev bin_by : List ℕ → Answer ℤ → Answer ℕ
bin_by b n = cond (is_short b) (Err ShortRecord) (cond (lt_z (pos_of b) (pos 0)) (Ok 4680) (bin_from (pos_of b) n))

abbrev fr_given : Bool → List ℕ → Answer ℤ → Answer Bool
fr_given forward b n = cond (is_opposite b) (cond (is_reverse (flags_of b)) (starts_before_end (mate_pos_of b) (pos_of b) n) (Ok forward)) (Ok false)

-- each call equals what it was; the overhang calls and `is_primary_fr_pair_raw` ask for a length by the pair test alone
pub record AsBefore (b : List ℕ) : Type 0 where
  pub length : is_given (checked_ref_length b) ≡ true → checked_ref_length b ≡ length_before (checked_ref_length b)
  pub end : (lt_z (pos_of b) (pos 0) ≡ false → is_given (checked_ref_length b) ≡ true) → alignment_end b ≡ end_by b (length_before (checked_ref_length b))
  pub bin : (lt_z (pos_of b) (pos 0) ≡ false → is_given (checked_ref_length b) ≡ true) → record_bin b ≡ bin_by b (length_before (checked_ref_length b))
  pub pair : (forward : Bool) → ((is_opposite b && is_reverse (flags_of b)) ≡ true → is_given (checked_ref_length b) ≡ true) → fr_by forward b ≡ fr_given forward b (length_before (checked_ref_length b))

given_is : (n : Answer ℤ) → is_given n ≡ true → n ≡ length_before n
given_is (Ok n) e = refl
given_is (Err r) e = never (cc)

pub as_before : (b : List ℕ) → AsBefore b
unfolding alignment_end record_bin fr_by mate_starts_before
as_before b =
    record {
      length = same;
      end = λ h. ap (cond (is_short b) (Err ShortRecord)) (past (lt_z (pos_of b) (pos 0)) (Ok None) (end_at (pos_of b)) h);
      bin = λ h. ap (cond (is_short b) (Err ShortRecord)) (past (lt_z (pos_of b) (pos 0)) (Ok 4680) (bin_from (pos_of b)) h);
      pair = λ forward h. paired forward (is_opposite b) (is_reverse (flags_of b)) h;
    }
  where
    n : Answer ℤ
    n = checked_ref_length b

    same : is_given n ≡ true → n ≡ length_before n
    same = given_is n

    -- what is answered before the length is asked for, and what is made of it
    past : {A : Type 0} (t : Bool) (a : A) (f : Answer ℤ → A) → (t ≡ false → is_given n ≡ true) → cond t a (f n) ≡ cond t a (f (length_before n))
    past true a f h = refl
    past false a f h = ap f (same (h refl))

    own : Answer ℤ → Answer Bool
    own k = starts_before_end (mate_pos_of b) (pos_of b) k

    paired : (forward t u : Bool) → ((t && u) ≡ true → is_given n ≡ true) → cond t (cond u (own n) (Ok forward)) (Ok false) ≡ cond t (cond u (own (length_before n)) (Ok forward)) (Ok false)
    paired forward true true h = ap own (same (h refl))
    paired forward true false h = refl
    paired forward false u h = refl
