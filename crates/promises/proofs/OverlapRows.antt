-- The refusal table of the pair tests and the overhang calls: each test of a definition is a row, in the same order; 2 and 4 are the reverse record's length's, and then 4 the two places' of an FR pair.
use Prim.Native.Nat.{ℕ}
use Rattle.std.specs.Prelude.{Err, Ok, Option}
use Rattle.answers.specs.Answer.{Answer}
use mathlib.Core.Path.{◌≡◌, refl, subst}
use mathlib.Core.Bool.{Bool, true, false, cond, ◌||◌, ◌&&◌}
use mathlib.Core.List.{List, [], ◌∷◌, ◌++◌}
use lib.IntN.{ℤ, pos, negsuc, ◌+ℤ◌}
use lib.ListN.{length}
use lib.Dec.{ltb}
use lib.Signed.{lt_z}
use Rattle.signed.specs.Whole.{checked, side_of, sum_at, Below, Within, Above}
use Rattle.sam.specs.Record.{pos_of, mate_pos_of, is_short}
use Rattle.answers.specs.Answers.{tell_flag, tell_count}
use Rattle.answers.specs.declared.Refusal.TheVariants.{ShortRecord, TooManyOps, Overflow, NoRoom}
use Rattle.answers.proofs.Numbers.{not-zero}
use Rattle.ends_rules.specs.Sums.{both}
use Rattle.ends_rules.specs.Ends.{plus_one}
use Rattle.oplist.specs.Ops.{most_ops, record_ops}
use Rattle.text_rules.specs.Text.{text_ops}
use Rattle.text_rules.specs.Valid.{valid_mapped}
use Rattle.text_rules.specs.Strict.{strict}
use Rattle.pairs_rules.specs.Pairs.{opposite_pair, fr_pair, primary_fr_pair}
use Rattle.overhang_rules.specs.Overhang.{bases_extending}
use Rattle.overlap_rules.specs.Overlap.{both_places, placed_pair, is_over, bases_at, overhang_at, pair_overhang, is_fr_by, past_mate_cigar, past_mate_record, list_left, pair_list_left, past_mate_text, tell_overhang}
use Rattle.overlap_rules.specs.declared.Overhang.{Overhang}
use Rattle.overlap_rules.proofs.CallLaws.{overhang_is, left_is}
use Rattle.answers.specs.Settled.{Outcome, keeps}
use Rattle.lists.specs.Lists.{splice}
use Rattle.promises.specs.Table.{Row, ◌when◌, Gives, GivesFilled}
use Rattle.promises.specs.Rows.{any_outside, no_room, is_yes, place_row, record_rows, pair_rows, fr_rows, two_rows, extending_rows, mate_cigar_rows, mate_record_rows, mate_text_rows}
use Rattle.promises.proofs.RowLaws.{answer, like, row, row-past, row_where, kept_refusal, like_filled, kept_row, kept_past, kept_where, last_row}
use Rattle.promises.proofs.LengthRows.{passes_on, pair-rows, both-pair-rows}

-- ---- the pair tests

pub is_mapped_opposite_strand_pair_raw : (b : List ℕ) → Gives (tell_flag (opposite_pair b)) (record_rows b)
unfolding opposite_pair
is_mapped_opposite_strand_pair_raw b = row tell_flag (is_short b) (Err ShortRecord) _ 1 refl (answer refl refl)

-- past a length that was asked for, a test tells yes or no
told : (t : Bool) → Gives (tell_flag (Ok t)) []
told t = answer refl refl

pub is_fr_pair_raw : (b : List ℕ) → Gives (tell_flag (fr_pair b)) (fr_rows b)
unfolding fr_pair
is_fr_pair_raw b =
    row-past tell_flag (is_short b) (Err ShortRecord) _ 1 refl (λ l.
    like refl (pair-rows _ (passes_on Err tell_flag (λ fr. fr) (λ r. refl)) (λ t. []) told _ b l))

pub is_primary_fr_pair_raw : (a b : List ℕ) → Gives (tell_flag (primary_fr_pair a b)) (two_rows a b)
unfolding primary_fr_pair
is_primary_fr_pair_raw a b =
    row-past tell_flag (is_short a) (Err ShortRecord) _ 1 refl (λ l.
    row-past tell_flag (is_short b) (Err ShortRecord) _ 1 refl (λ m.
    like refl (both-pair-rows _ (passes_on Err tell_flag (λ fr. fr) (λ r. refl)) (λ t. []) told a b l m)))

-- ---- the overhang

pub bases_extending_past_mate_ops : (reverse : Bool) (p : ℤ) (xs : List ℕ) (m : ℤ) (ys : List ℕ) → Gives (tell_count (bases_extending reverse p xs m ys)) (extending_rows xs ys)
unfolding bases_extending
bases_extending_past_mate_ops reverse p xs m ys =
    row tell_count (ltb most_ops (length xs)) (Err TooManyOps) _ 3 refl
    (row tell_count (ltb most_ops (length ys)) (Err TooManyOps) _ 3 refl (answer refl refl))

-- an FR pair is not placed where either place overflows
sums_over : (p m : ℤ) → is_over (both_places (checked p) (checked m)) ≡ any_outside (p ∷ m ∷ [])
unfolding checked side_of
sums_over p m = by-sides (lt_z p (negsuc 2147483647)) (lt_z (pos 2147483647) p) (lt_z m (negsuc 2147483647)) (lt_z (pos 2147483647) m)
  where
    sum : (low high : Bool) (z : ℤ) → Option ℤ
    sum low high z = sum_at (cond low Below (cond high Above (Within z)))

    by-sides : (low high low' high' : Bool) → is_over (both_places (sum low high p) (sum low' high' m)) ≡ (low || high || (low' || high' || false))
    by-sides true high low' high' = refl
    by-sides false true low' high' = refl
    by-sides false false true high' = refl
    by-sides false false false true = refl
    by-sides false false false false = refl

placed_over : (fr : Bool) (b : List ℕ) (m : ℤ) → is_over (placed_pair fr b m) ≡ (fr && any_outside ((pos_of b +ℤ pos 1) ∷ (m +ℤ pos 1) ∷ []))
unfolding placed_pair plus_one both
placed_over true b m = sums_over (pos_of b +ℤ pos 1) (m +ℤ pos 1)
placed_over false b m = refl

overhang_rows : (fr : Bool) (b ys : List ℕ) (m : ℤ) → Gives (tell_count (overhang_at (placed_pair fr b m) b ys)) (place_row fr (pos_of b) m ∷ [])
overhang_rows fr b ys m =
    rw (overhang_is fr b m ys)
    (subst (λ t. Gives (tell_count (cond (is_over (placed_pair fr b m)) (Err Overflow) (Ok (bases_at (placed_pair fr b m) b ys)))) ((4 when t) ∷ [])) (placed_over fr b m)
    (row tell_count (is_over (placed_pair fr b m)) (Err Overflow) _ 4 refl (answer refl refl)))

pub num_bases_extending_past_mate_cigar_raw : (b ys : List ℕ) → Gives (tell_count (past_mate_cigar b ys)) (mate_cigar_rows b ys)
unfolding past_mate_cigar
num_bases_extending_past_mate_cigar_raw b ys =
    row-past tell_count (is_short b) (Err ShortRecord) _ 1 refl (λ l.
    row tell_count (ltb most_ops (length ys)) (Err TooManyOps) _ 3 refl
    (row_where tell_count (valid_mapped ys) (Ok 0) _ refl
    (pair-rows _ (passes_on Err tell_count (λ fr. pair_overhang fr b (mate_pos_of b) ys) (λ r. refl)) (λ t. place_row t (pos_of b) (mate_pos_of b) ∷ [])
    (λ t. overhang_rows t b ys (mate_pos_of b)) _ b l)))

pub num_bases_extending_past_mate_vs_mate_raw : (b m : List ℕ) → Gives (tell_count (past_mate_record b m)) (mate_record_rows b m)
unfolding past_mate_record
num_bases_extending_past_mate_vs_mate_raw b m =
    row-past tell_count (is_short b) (Err ShortRecord) _ 1 refl (λ l.
    row-past tell_count (is_short m) (Err ShortRecord) _ 1 refl (λ k.
    both-pair-rows _ (passes_on Err tell_count (λ fr. pair_overhang fr b (pos_of m) (record_ops m)) (λ r. refl)) (λ t. place_row t (pos_of b) (pos_of m) ∷ [])
    (λ t. overhang_rows t b (record_ops m) (pos_of m)) b m l k))

-- 4, then 6, before the list is written
list_rows : (fr : Bool) (b xs d : List ℕ) (m : ℤ)
    → GivesFilled tell_overhang (list_left (placed_pair fr b m) b xs d) d (place_row fr (pos_of b) m ∷ no_room d (length xs) ∷ []) (Ok (record { bases = bases_at (placed_pair fr b m) b xs; written = length xs })) xs
list_rows fr b xs d m =
    rw (left_is fr b m xs d)
    (subst (λ t. GivesFilled tell_overhang (left_by fr b xs d m) d ((4 when t) ∷ no_room d (length xs) ∷ []) (Ok (record { bases = bases_at (placed_pair fr b m) b xs; written = length xs })) xs) (placed_over fr b m)
    (kept_row tell_overhang (is_over (placed_pair fr b m)) (Err Overflow) 4 refl refl (last_row tell_overhang xs (Err NoRoom) _ refl refl)))
  where
    left_by : Bool → List ℕ → List ℕ → List ℕ → ℤ → Outcome (Answer Overhang)
    left_by fr b xs d m =
        cond (is_over (placed_pair fr b m)) (keeps (Err Overflow) d)
        (cond (ltb (length d) (length xs)) (keeps (Err NoRoom) d) (record { answer = Ok (record { bases = bases_at (placed_pair fr b m) b xs; written = length xs }); left = splice d 0 xs }))

-- what is left of the room by the pair test
abbrev LeftBy : List ℕ → List ℕ → List ℕ → Answer Bool → List Row → Type 0
LeftBy b xs d fr rows = GivesFilled tell_overhang (pair_list_left fr b xs d) d rows (Ok (record { bases = bases_at (placed_pair (is_yes fr) b (mate_pos_of b)) b xs; written = length xs })) xs

left_rows : (b xs d : List ℕ) → is_short b ≡ false → LeftBy b xs d (is_fr_by b xs) (pair_rows b ++ (place_row (is_yes (is_fr_by b xs)) (pos_of b) (mate_pos_of b) ∷ no_room d (length xs) ∷ []))
left_rows b xs d l =
    pair-rows (LeftBy b xs d) (record { stops = λ r rows e. kept_refusal tell_overhang (Err r) refl e (not-zero r); alike = λ fr rows rows' e q. like_filled tell_overhang e q })
    (λ t. place_row t (pos_of b) (mate_pos_of b) ∷ no_room d (length xs) ∷ []) (λ t. list_rows t b xs d (mate_pos_of b)) _ b l

-- an answer leaves the parsed list in the first places; a text that the strict reader refuses answers 0 and leaves the room as it was
pub num_bases_extending_past_mate_text_raw : (b s d : List ℕ)
    → GivesFilled tell_overhang (past_mate_text b s d) d (mate_text_rows b s d) (cond (strict s) (Ok (record { bases = bases_at (placed_pair (is_yes (is_fr_by b (text_ops s))) b (mate_pos_of b)) b (text_ops s); written = length (text_ops s) })) (Ok (record { bases = 0; written = 0 }))) (cond (strict s) (text_ops s) [])
unfolding past_mate_text
num_bases_extending_past_mate_text_raw b s d =
    kept_past tell_overhang (is_short b) (Err ShortRecord) 1 refl refl (λ l.
    kept_where tell_overhang (strict s) (Ok (record { bases = 0; written = 0 })) refl
    (kept_row tell_overhang (ltb most_ops (length (text_ops s))) (Err TooManyOps) 3 refl refl
    (left_rows b (text_ops s) d l)))
