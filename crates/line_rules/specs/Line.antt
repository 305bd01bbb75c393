-- Document 01, "Program": "Output lines are tab-separated: record number from 1; text, or `*` if empty; checked reference length; query length; unclipped 5' position; bin;
-- 1 if query length equals l_seq, else 0. A refused record prints its number, `refused`, the refusal; the first of 1, 7, 6, 2, 4. Text room is 65,536 bytes."
-- Document 02, item 2: "Document 01's field becomes `-` where l_seq is 0. Its other cases stay." Item 3: "`.` for the latter two", unmapped and no ops.
use Rattle.std.specs.Prelude.{ℕ, cond, List, [], ◌∷◌, ◌++◌, eqb, ℤ, pos, replicate, Ok, Err}
use Rattle.answers.specs.Answer.{Answer}
use Rattle.lists.specs.Runs.{holds}
use Rattle.signed.specs.Whole.{natural}
use Rattle.sam.specs.Record.{seq_len_of}
use Rattle.oplist.specs.Ops.{record_ops}
use Rattle.answers.specs.Answers.{Told, tell_int, tell_count, tell_nat}
use Rattle.decimal.specs.Decimal.{decimal}
use Rattle.print_rules.specs.Text.{text_of, printed}
use Rattle.length_rules.specs.Lengths.{checked_ref_length, record_query_length}
use Rattle.ends_rules.specs.Ends.{unclipped_of, tell_unclipped}
use Rattle.ends_rules.specs.declared.Unclipped.{Unclipped}
use Rattle.bin_rules.specs.Bin.{record_bin}
use Rattle.put_text.specs.Puts.{signed_decimal}

-- ---- what the calls tell of a record

-- "Text room is 65,536 bytes": whatever they hold
unfoldable pub text_room : List ℕ
text_room = replicate 65536 0

unfoldable pub text_told : List ℕ → Told
text_told b = tell_count (printed b text_room).answer

abbrev pub refs_told : List ℕ → Told
refs_told b = tell_int (checked_ref_length b)

abbrev pub query_told : List ℕ → Told
query_told b = tell_count (record_query_length b)

abbrev pub five_told : List ℕ → Told
five_told b = tell_unclipped (unclipped_of b)

abbrev pub bin_told : List ℕ → Told
bin_told b = tell_nat (record_bin b)

-- ---- "the first of 1, 7, 6, 2, 4"

abbrev pub order : List ℕ
order = 1 ∷ 7 ∷ 6 ∷ 2 ∷ 4 ∷ []

-- the first of these numbers that is among those; 0 if none is
unfoldable pub first_of : List ℕ → List ℕ → ℕ
first_of [] given = 0
first_of (r ∷ rs) given = cond (holds (eqb r) given) r (first_of rs given)

-- a record's refusal, or 0
unfoldable pub refusal_of : List ℕ → ℕ
refusal_of b = first_of order ((text_told b).number ∷ (refs_told b).number ∷ (query_told b).number ∷ (five_told b).number ∷ (bin_told b).number ∷ [])

-- ---- the line

-- the value that a call told
abbrev pub value_of : List ℤ → ℤ
value_of [] = pos 0
value_of (z ∷ zs) = z

abbrev pub shown : Told → List ℕ
shown t = signed_decimal (value_of t.values)

-- "text, or `*` if empty"
abbrev pub or_star : List ℕ → List ℕ
or_star [] = 42 ∷ []
or_star (x ∷ xs) = x ∷ xs

-- the position, or `.` where there is none
abbrev pub place_or_dot : Unclipped → List ℕ
place_or_dot (Unclipped.At p) = signed_decimal p.0
place_or_dot Unclipped.Unmapped = 46 ∷ []
place_or_dot Unclipped.NoOps = 46 ∷ []

abbrev pub or_dot : Answer Unclipped → List ℕ
or_dot (Ok u) = place_or_dot u
or_dot (Err r) = 46 ∷ []

-- `-` where no sequence is stored; else "1 if query length equals l_seq, else 0"
abbrev pub length_mark : ℕ → ℕ → ℕ
length_mark query seq = cond (eqb seq 0) 45 (cond (eqb query seq) 49 48)

-- further fields, each behind a tab, and the end of the line
unfoldable pub tabbed : List (List ℕ) → List ℕ
tabbed [] = 10 ∷ []
tabbed (f ∷ fs) = 9 ∷ (f ++ tabbed fs)

abbrev pub record_fields : List ℕ → List (List ℕ)
record_fields b =
    or_star (text_of (record_ops b))
    ∷ shown (refs_told b)
    ∷ shown (query_told b)
    ∷ or_dot (unclipped_of b)
    ∷ shown (bin_told b)
    ∷ (length_mark (natural (value_of (query_told b).values)) (seq_len_of b) ∷ [])
    ∷ []

-- "prints its number, `refused`, the refusal"
abbrev pub refused_fields : ℕ → List (List ℕ)
refused_fields r = (114 ∷ 101 ∷ 102 ∷ 117 ∷ 115 ∷ 101 ∷ 100 ∷ []) ∷ decimal r ∷ []

unfoldable pub line_of : ℕ → List ℕ → List ℕ
line_of n b = decimal n ++ tabbed (cond (eqb (refusal_of b) 0) (record_fields b) (refused_fields (refusal_of b)))
