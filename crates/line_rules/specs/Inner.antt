-- What the inner functions of the line promise. Document 01's rule is `Line`.
use Rattle.std.specs.Prelude.{ℕ, ◌+◌, ◌≤◌, ◌≡◌, List, [], ◌∷◌, ℤ, length, Err, Ok}
use Rattle.answers.specs.Answer.{Answer}
use Rattle.lists.specs.Lists.{sum_of}
use Rattle.sam.specs.Op.{query_len}
use Rattle.sam.specs.Record.{seq_len_of}
use Rattle.oplist.specs.Ops.{record_ops}
use Rattle.length_rules.specs.Lengths.{checked_ref_length}
use Rattle.ends_rules.specs.Ends.{unclipped_of}
use Rattle.ends_rules.specs.declared.Unclipped.{Unclipped}
use Rattle.bin_rules.specs.Bin.{record_bin}
use Rattle.decimal.specs.Decimal.{decimal}
use Rattle.print_rules.specs.Text.{text_of, printed}
use Rattle.put_text.specs.Puts.{Put, signed_decimal}
use Rattle.line_rules.specs.Line.{text_room, or_star, place_or_dot, length_mark}
use Rattle.line_rules.specs.declared.LineRow.{LineRow}

-- the figures, or the first refusal on the way
unfoldable pub row_of : Answer ℤ → ℕ → Answer Unclipped → Answer ℕ → ℕ → Answer LineRow
row_of (Err r) q u n m = Err r
row_of (Ok z) q (Err r) n m = Err r
row_of (Ok z) q (Ok u) (Err r) m = Err r
row_of (Ok z) q (Ok u) (Ok k) m = Ok (record { refs = z; query = q; five = u; bin = k; mark = m })

unfoldable pub figures_of : List ℕ → Answer LineRow
figures_of b =
    row_of (checked_ref_length b) (sum_of query_len (record_ops b)) (unclipped_of b) (record_bin b) (length_mark (sum_of query_len (record_ops b)) (seq_len_of b))

-- the fields behind the text
abbrev pub row_fields : LineRow → List (List ℕ)
row_fields w = signed_decimal w.refs ∷ decimal w.query ∷ place_or_dot w.five ∷ decimal w.bin ∷ (w.mark ∷ []) ∷ []

-- a tab and the text, or `*`; or why not, with nothing changed before the place
abbrev pub TextPut : List ℕ → List ℕ → ℕ → Answer ℕ → List ℕ → Type 0
TextPut b d at (Ok r) d' = (32 ≤ length b) × ((printed b text_room).answer ≡ Ok (length (text_of (record_ops b)))) × Put d at (9 ∷ or_star (text_of (record_ops b))) r d' × (r ≤ at + 65537)
TextPut b d at (Err w) d' = ((printed b text_room).answer ≡ Err w) × Put d at [] at d'
