-- The refusal table of fields, ops, lengths and bins: each test of a definition is a row, in the same order.
use Prim.Native.Nat.{ℕ, ◌*◌}
use Rattle.std.specs.Prelude.{Err, None, Ok, Some}
use Rattle.answers.specs.Answer.{Answer}
use mathlib.Core.Path.{◌≡◌, refl, sym, ap, subst, ◌∙◌}
use mathlib.Core.Bool.{Bool, true, false, cond, not, ◌||◌}
use mathlib.Core.List.{List, [], ◌∷◌}
use lib.IntN.{ℤ, pos, ◌-ℤ◌, ◌+ℤ◌}
use lib.ListN.{length}
use lib.Dec.{T, ltb, eqb}
use lib.Signed.{lt_z}
use Rattle.lists.specs.Lists.{sum_of}
use Rattle.sam.specs.Op.{ref_len}
use Rattle.sam.specs.Record.{ref_id_of, pos_of, name_len_of, stored_bin_of, op_count_of, flags_of, seq_len_of, mate_ref_id_of, mate_pos_of, template_len_of, ops_start, ops_end, is_short}
use Rattle.oplist.specs.Ops.{most_ops, record_ops}
use Rattle.answers.specs.Answers.{Told, answered, tell_int, tell_nat, tell_count, tell_place0}
use Rattle.answers.specs.declared.Refusal.TheVariants.{ShortRecord, AreaOverrun, TooManyOps, Overflow, NoRoom, BadLength}
use Rattle.fields.specs.Fields.{int_field, nat_field, pos_field, cigar_area, cigar_part, tell_area}
use Rattle.kinds.specs.Kinds.{kind_of, from_op_type, tell_kind, new_op, tell_op}
use Rattle.copied_ops.specs.Copied.{get_ops}
use Rattle.kinds.specs.declared.CigarKind.{CigarKind}
use Rattle.length_rules.specs.Lengths.{as_int, ref_length_up_to, query_length_up_to, ref_length, query_length, saturated_length, checked_ref_length, record_query_length, lengths_with, record_lengths, tell_lengths}
use Rattle.bin_rules.specs.Bin.{bin_to, reg2bin, span_of, bin_up_to, record_bin, with_bin, set_bin, bin_from}
use Rattle.promises.specs.Table.{Row, ◌when◌, Gives, GivesKept, GivesFilled}
use Rattle.promises.specs.Rows.{over, any_outside, refs_of, record_rows, ops_rows, new_rows, list_rows, length_rows, checked_rows, lengths_rows, region_rows, bin_rows}
use Rattle.promises.proofs.RowLaws.{number_alone, answer, row, row-past, row_either, row_unless, row_sum, kept_row, last_row}
use Rattle.promises.proofs.LengthRows.{passes_on, length-rows}

-- ---- fields

-- any signed and any unsigned field, and any position
int-field : (f : List ℕ → ℤ) (b : List ℕ) → Gives (tell_int (int_field f b)) (record_rows b)
int-field f b = row tell_int (is_short b) (Err ShortRecord) (Ok (f b)) 1 refl (answer refl refl)

nat-field : (f : List ℕ → ℕ) (b : List ℕ) → Gives (tell_nat (nat_field f b)) (record_rows b)
nat-field f b = row tell_nat (is_short b) (Err ShortRecord) (Ok (f b)) 1 refl (answer refl refl)

pos_field_rows : (f : List ℕ → ℤ) (b : List ℕ) → Gives (tell_place0 (pos_field f b)) (record_rows b)
pos_field_rows f b = row tell_place0 (is_short b) (Err ShortRecord) (Ok (record { 0 = f b })) 1 refl (answer refl refl)

pub ref_id : (b : List ℕ) → Gives (tell_int (int_field ref_id_of b)) (record_rows b)
ref_id = int-field ref_id_of

pub pos_rows : (b : List ℕ) → Gives (tell_place0 (pos_field pos_of b)) (record_rows b)
pos_rows = pos_field_rows pos_of

pub l_read_name : (b : List ℕ) → Gives (tell_nat (nat_field name_len_of b)) (record_rows b)
l_read_name = nat-field name_len_of

pub bin-rows : (b : List ℕ) → Gives (tell_nat (nat_field stored_bin_of b)) (record_rows b)
bin-rows = nat-field stored_bin_of

pub n_cigar_op : (b : List ℕ) → Gives (tell_nat (nat_field op_count_of b)) (record_rows b)
n_cigar_op = nat-field op_count_of

pub flags : (b : List ℕ) → Gives (tell_nat (nat_field flags_of b)) (record_rows b)
flags = nat-field flags_of

pub l_seq : (b : List ℕ) → Gives (tell_nat (nat_field seq_len_of b)) (record_rows b)
l_seq = nat-field seq_len_of

pub mate_ref_id : (b : List ℕ) → Gives (tell_int (int_field mate_ref_id_of b)) (record_rows b)
mate_ref_id = int-field mate_ref_id_of

pub mate_pos : (b : List ℕ) → Gives (tell_place0 (pos_field mate_pos_of b)) (record_rows b)
mate_pos = pos_field_rows mate_pos_of

pub template_length : (b : List ℕ) → Gives (tell_int (int_field template_len_of b)) (record_rows b)
template_length = int-field template_len_of

pub cigar_raw_bytes : (b : List ℕ) → Gives (tell_area (cigar_area b)) (record_rows b)
unfolding cigar_area
cigar_raw_bytes b = row tell_area (is_short b) (Err ShortRecord) _ 1 refl (area (ltb (length b) (ops_end b)))
  where
    area : (t : Bool) → Gives (tell_area (cond t (Ok (record { start = 0; size = 0 })) (Ok (record { start = ops_start b; size = 4 * op_count_of b })))) []
    area true = answer refl refl
    area false = answer refl refl

-- "where the answer would be a part of the record, an empty part stands beside the number"
pub no_part : (b : List ℕ) → is_short b ≡ true → cigar_part b ≡ []
unfolding cigar_part
no_part b t = rw (t) refl

-- ---- calls whose answer is a plain number or flag, and `from_op_type`, refuse nothing: `consumes_ref`, `consumes_query`, `consumes_read`, `as_char`, `op_kind`, `op_len`,
-- `op_consumes_query`, `op_consumes_ref`, `mate_unclipped_5prime`, `mate_unclipped_5prime_1based`

pub plain : (zs : List ℤ) → Gives (answered zs) []
plain zs = answer refl refl

pub from-op-type : (v : ℕ) → Gives (tell_kind (from_op_type v)) []
unfolding from_op_type
from-op-type v = known (ltb 8 v)
  where
    known : (t : Bool) → Gives (tell_kind (cond t None (Some (kind_of v)))) []
    known true = answer refl refl
    known false = answer refl refl

-- ---- ops

pub op_new : (k : CigarKind) (n : ℕ) → Gives (tell_op (new_op k n)) (new_rows n)
unfolding new_op
op_new k n = row_either tell_op (eqb n 0) (ltb 268435455 n) (Err BadLength) _ 10 refl (answer refl refl)

pub get_cigar_ops : (b d : List ℕ) → GivesFilled tell_count (get_ops b d) d (ops_rows b d) (Ok (length (record_ops b))) (record_ops b)
unfolding get_ops
get_cigar_ops b d =
    kept_row tell_count (is_short b) (Err ShortRecord) 1 refl refl
    (last_row tell_count (record_ops b) (Err NoRoom) _ refl refl)

-- ---- lengths

-- a total above 2^31 - 1 is outside the range
top : (n : ℕ) → ltb 2147483647 n ≡ any_outside (pos n ∷ [])
top n = by-case (ltb 2147483647 n)
  where
    by-case : (t : Bool) → t ≡ (t || false)
    by-case true = refl
    by-case false = refl

-- a total as an i32
pub total_rows : {A : Type 0} (tell : A → Told) (to : Answer ℤ → A) (n : ℕ) → tell (to (Err Overflow)) ≡ number_alone 4 → (tell (to (Ok (pos n)))).number ≡ 0
    → Gives (tell (to (as_int n))) (over (pos n ∷ []) ∷ [])
unfolding as_int
total_rows tell to n p q =
    subst (λ t. Gives (tell (to (as_int n))) ((4 when t) ∷ [])) (top n)
    (row (λ x. tell (to x)) (ltb 2147483647 n) (Err Overflow) (Ok (pos n)) 4 p (answer q refl))

-- of a list of at most `limit` ops
pub reference_length_up_to : (limit : ℕ) (xs : List ℕ) → Gives (tell_int (ref_length_up_to limit xs)) ((3 when ltb limit (length xs)) ∷ over (pos (sum_of ref_len xs) ∷ []) ∷ [])
unfolding ref_length_up_to
reference_length_up_to limit xs = row tell_int (ltb limit (length xs)) (Err TooManyOps) _ 3 refl (total_rows tell_int (λ x. x) (sum_of ref_len xs) refl refl)

pub query-length-up-to : (limit : ℕ) (xs : List ℕ) → Gives (tell_count (query_length_up_to limit xs)) ((3 when ltb limit (length xs)) ∷ [])
unfolding query_length_up_to
query-length-up-to limit xs = row tell_count (ltb limit (length xs)) (Err TooManyOps) _ 3 refl (answer refl refl)

pub reference_length_from_cigar : (xs : List ℕ) → Gives (tell_int (ref_length xs)) (length_rows xs)
reference_length_from_cigar = reference_length_up_to most_ops

pub query_length_from_cigar : (xs : List ℕ) → Gives (tell_count (query_length xs)) (list_rows xs)
query_length_from_cigar = query-length-up-to most_ops

pub saturating_reference_length : (xs : List ℕ) → Gives (tell_int (saturated_length xs)) (list_rows xs)
unfolding saturated_length
saturating_reference_length xs = row tell_int (ltb most_ops (length xs)) (Err TooManyOps) _ 3 refl (answer refl refl)

pub reference_length_from_raw_bam_checked : (b : List ℕ) → Gives (tell_int (checked_ref_length b)) (checked_rows b)
unfolding checked_ref_length
reference_length_from_raw_bam_checked b =
    row tell_int (is_short b) (Err ShortRecord) _ 1 refl
    (row tell_int (ltb (length b) (ops_end b)) (Err AreaOverrun) _ 2 refl (total_rows tell_int (λ x. x) (sum_of ref_len (record_ops b)) refl refl))

-- "The default becomes the checked form's refusal"
pub reference_length_from_raw_bam : (b : List ℕ) → Gives (tell_int (checked_ref_length b)) (checked_rows b)
reference_length_from_raw_bam = reference_length_from_raw_bam_checked

pub query-length : (b : List ℕ) → Gives (tell_count (record_query_length b)) (record_rows b)
unfolding record_query_length
query-length b = row tell_count (is_short b) (Err ShortRecord) _ 1 refl (answer refl refl)

pub cigar_lengths : (b : List ℕ) → Gives (tell_lengths (record_lengths b)) (lengths_rows b)
unfolding record_lengths
cigar_lengths b =
    row tell_lengths (is_short b) (Err ShortRecord) _ 1 refl
    (total_rows tell_lengths (λ x. lengths_with x (record_ops b)) (sum_of ref_len (record_ops b)) refl refl)

-- ---- bins

region : (beg end : ℤ) → Gives (tell_nat (reg2bin beg end)) (over ((end -ℤ pos 1) ∷ []) ∷ [])
unfolding reg2bin bin_to
region beg end = row_sum tell_nat (bin_to beg) (end -ℤ pos 1) [] refl (answer refl refl)

pub reg2bin_rows : (beg end : ℤ) → Gives (tell_nat (reg2bin beg end)) (region_rows end)
reg2bin_rows beg end = region beg end

pub bin_from_raw_bam : (b : List ℕ) → Gives (tell_nat (record_bin b)) (bin_rows b)
unfolding record_bin bin_from bin_up_to
bin_from_raw_bam b =
    row-past tell_nat (is_short b) (Err ShortRecord) _ 1 refl (λ l.
    row_unless tell_nat (lt_z (pos_of b) (pos 0)) (Ok 4680) _ refl
    (length-rows _ (passes_on Err tell_nat (bin_from (pos_of b)) (λ r. refl)) b l (λ n. over (end ∷ (end -ℤ pos 1) ∷ []) ∷ [])
    (row_sum tell_nat (bin_up_to (pos_of b)) end ((end -ℤ pos 1) ∷ []) refl (region (pos_of b) end))))
  where
    end : ℤ
    end = pos_of b +ℤ span_of (refs_of b)

-- a refusal writes nothing
with-bin : (b : List ℕ) (a : Answer ℕ) (rows : List Row) → Gives (tell_nat a) rows → GivesKept tell_nat (with_bin b a) b rows
with-bin b (Ok n) rows q = record { gives = q; kept = λ e. absurd (subst T (sym (ap (λ k. not (eqb k 0)) q.number ∙ e)) tt) }
with-bin b (Err r) rows q = record { gives = q; kept = λ e. refl }

pub set_bin_from_raw_bam : (b : List ℕ) → GivesKept tell_nat (set_bin b) b (bin_rows b)
unfolding set_bin
set_bin_from_raw_bam b = with-bin b (record_bin b) (bin_rows b) (bin_from_raw_bam b)
