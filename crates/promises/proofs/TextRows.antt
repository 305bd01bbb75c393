-- The refusal table of printing, the strict reader and the validity test: each test of a definition is a row, in the same order.
use Prim.Native.Nat.{ℕ}
use Rattle.std.specs.Prelude.{Err, Ok}
use mathlib.Core.Path.{refl}
use mathlib.Core.Bool.{not}
use mathlib.Core.List.{List}
use lib.ListN.{length}
use lib.Dec.{ltb}
use Rattle.sam.specs.Record.{is_short}
use Rattle.oplist.specs.Ops.{most_ops, record_ops}
use Rattle.answers.specs.Answers.{tell_count, tell_flag}
use Rattle.answers.specs.declared.Refusal.TheVariants.{ShortRecord, TooManyOps, NotACigar, NoRoom, BadCode}
use Rattle.print_rules.specs.Text.{any_bad, text_of, printed}
use Rattle.text_rules.specs.Text.{text_ops}
use Rattle.text_rules.specs.Strict.{strict}
use Rattle.validity.specs.Validity.{validity}
use Rattle.parsed_rules.specs.Parsed.{parsed}
use Rattle.promises.specs.Table.{Gives, GivesFilled}
use Rattle.promises.specs.Rows.{list_rows, print_rows, text_rows}
use Rattle.promises.proofs.RowLaws.{answer, row, kept_row, last_row}

pub cigar_to_bytes_into : (b d : List ℕ) → GivesFilled tell_count (printed b d) d (print_rows b d) (Ok (length (text_of (record_ops b)))) (text_of (record_ops b))
unfolding printed
cigar_to_bytes_into b d =
    kept_row tell_count (is_short b) (Err ShortRecord) 1 refl refl
    (kept_row tell_count (any_bad (record_ops b)) (Err BadCode) 7 refl refl
    (last_row tell_count (text_of (record_ops b)) (Err NoRoom) _ refl refl))

pub parse_cigar_string_ops : (s d : List ℕ) → GivesFilled tell_count (parsed s d) d (text_rows s d) (Ok (length (text_ops s))) (text_ops s)
unfolding parsed
parse_cigar_string_ops s d =
    kept_row tell_count (not (strict s)) (Err NotACigar) 5 refl refl
    (kept_row tell_count (ltb most_ops (length (text_ops s))) (Err TooManyOps) 3 refl refl
    (last_row tell_count (text_ops s) (Err NoRoom) _ refl refl))

pub is_valid_mapped_cigar : (xs : List ℕ) → Gives (tell_flag (validity xs)) (list_rows xs)
unfolding validity
is_valid_mapped_cigar xs = row tell_flag (ltb most_ops (length xs)) (Err TooManyOps) _ 3 refl (answer refl refl)
