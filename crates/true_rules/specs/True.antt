-- Document 02, item 1, the calls on a record's true list, which the reader "hands back": what each makes of the ops, behind the reader's refusals 1, 2, 12, 13 and 3.
use Rattle.std.specs.Prelude.{ℕ, ◌≡◌, Bool, true, false, cond, List, Ok, Err}
use Rattle.answers.specs.Answer.{Answer}
use Rattle.length_rules.specs.declared.RecordLengths.{RecordLengths}
use Rattle.sam.specs.Record.{is_short, pos_of, flags_of, is_unmapped, is_reverse, ops_in}
use Rattle.answers.specs.declared.Refusal.{Refusal}
use Rattle.answers.specs.declared.Refusal.TheVariants.{ShortRecord}
use Rattle.answers.specs.Settled.{Outcome, keeps}
use Rattle.tag_rules.specs.Long.{true_list, part_of, refusal_of, read_from}
use Rattle.copied_ops.specs.Copied.{copied_ops}
use Rattle.print_rules.specs.Text.{printed_ops}
use Rattle.length_rules.specs.Lengths.{list_lengths}
use Rattle.ends_rules.specs.Ends.{unclipped_by}
use Rattle.ends_rules.specs.declared.Unclipped.{Unclipped}
use Rattle.clip_rules.specs.Answer.{clipped_into, without_count}
use Rattle.clip_rules.specs.declared.Clipped.{Clipped}

-- `true_cigar_raw_bytes`: "the part of the record holding the list", and the number beside it
abbrev pub true_part : List ℕ → List ℕ
true_part b = part_of b (true_list b)

abbrev pub true_part_refusal : List ℕ → ℕ
true_part_refusal b = refusal_of (true_list b)

-- a refusal keeps lent memory d
abbrev pub stop_kept : {A : Type 0} → (Refusal → A) → List ℕ → Refusal → Outcome A
stop_kept stop d r = keeps (stop r) d

-- `true_cigar_ops` into lent memory d: then 6
abbrev pub true_ops : List ℕ → List ℕ → Outcome (Answer ℕ)
true_ops b d = read_from (stop_kept Err d) (λ xs. copied_ops xs d) b (true_list b)

-- `true_cigar_to_bytes_into`: then 7, 6
abbrev pub true_printed : List ℕ → List ℕ → Outcome (Answer ℕ)
true_printed b d = read_from (stop_kept Err d) (λ xs. printed_ops xs d) b (true_list b)

-- `true_cigar_lengths`: then 4
abbrev pub true_lengths : List ℕ → Answer RecordLengths
true_lengths b = read_from Err list_lengths b (true_list b)

-- `true_unclipped_5prime_from_raw_bam`: behind 1, unmapped is answered before anything but the flags is read; then 2, 12, 13, 3 of the reader, no ops of its list, and 4
unfoldable pub true_unclipped : List ℕ → Answer Unclipped
true_unclipped b =
    cond (is_short b) (Err ShortRecord)
    (cond (is_unmapped (flags_of b)) (Ok Unclipped.Unmapped)
    (read_from Err (λ xs. unclipped_by xs (record { 0 = pos_of b }) (is_reverse (flags_of b))) b (true_list b)))

-- the true list clipped at an end, into lent memory d: then 8, 19, 6; 3 is the reader's
abbrev pub true_clipped : List ℕ → ℕ → Bool → List ℕ → Outcome (Answer Clipped)
true_clipped b amount start d = read_from (stop_kept Err d) (λ xs. clipped_into xs amount start d) b (true_list b)

-- `true_clip_cigar_start`, `true_clip_cigar_end`
abbrev pub true_start : List ℕ → ℕ → List ℕ → Outcome (Answer Clipped)
true_start b amount d = true_clipped b amount true d

abbrev pub true_end : List ℕ → ℕ → List ℕ → Outcome (Answer ℕ)
true_end b amount d = without_count (true_clipped b amount false d)

-- the list that the reader hands back of a record is xs
pub record HandsBack (b xs : List ℕ) : Type 0 where
  pub at : ℕ
  pub count : ℕ
  pub list_is : true_list b ≡ Ok (record { at = at; n = count })
  pub ops_are : ops_in b at count ≡ xs
