-- Document 01, module 10: the calls on records. "There the strict reader's answer decides whether a list is used: refusal 5 gives overhang 0, as in the Rust; 3 and 6
-- are passed on, in the records' order. It is lent room for the list: an answer leaves the parsed list in the first places, and after 5 the room is unchanged."
use Rattle.std.specs.Prelude.{ℕ, Bool, true, false, cond, not, List, [], ◌∷◌, ℤ, pos, length, ltb, Err, None, Ok, Option, Some}
use Rattle.answers.specs.Answer.{Answer}
use Rattle.lists.specs.Lists.{sum_of, splice}
use Rattle.signed.specs.Whole.{clamp32}
use Rattle.sam.specs.Op.{ref_len}
use Rattle.sam.specs.Record.{pos_of, flags_of, mate_pos_of, is_reverse, is_short}
use Rattle.answers.specs.Answers.{Told, answered, refused}
use Rattle.answers.specs.Settled.{Outcome, keeps}
use Rattle.answers.specs.declared.Refusal.TheVariants.{ShortRecord, TooManyOps, Overflow, NoRoom}
use Rattle.oplist.specs.Ops.{most_ops, record_ops}
use Rattle.ends_rules.specs.Ends.{plus_one}
use Rattle.text_rules.specs.Text.{text_ops}
use Rattle.text_rules.specs.Valid.{valid_mapped}
use Rattle.text_rules.specs.Strict.{strict}
use Rattle.pairs_rules.specs.Pairs.{is_fr_with_mate, is_primary_fr}
use Rattle.overhang_rules.specs.Overhang.{overhang_of}
use Rattle.overlap_rules.specs.declared.PairPlaces.{PairPlaces}
use Rattle.overlap_rules.specs.declared.Overhang.{Overhang}

-- of an FR pair, the read's and the mate's place counted from 1; either sum may overflow: 4
abbrev pub both_places : Option ℤ → Option ℤ → Answer (Option PairPlaces)
both_places (Some p) (Some m) = Ok (Some (record { own = record { 0 = p }; mate = record { 0 = m } }))
both_places (Some p) None = Err Overflow
both_places None m = Err Overflow

-- where the pair is FR, its places, with the mate's place as a record has it; none of another pair
unfoldable pub placed_pair : Bool → List ℕ → ℤ → Answer (Option PairPlaces)
placed_pair fr b m = cond fr (both_places (plus_one (record { 0 = pos_of b })) (plus_one (record { 0 = m }))) (Ok None)

abbrev pub is_over : Answer (Option PairPlaces) → Bool
is_over (Ok p) = false
is_over (Err r) = true

-- 0 unless the pair is FR; else the geometry of the read's ops and the mate's
abbrev pub bases_at : Answer (Option PairPlaces) → List ℕ → List ℕ → ℕ
bases_at (Ok None) b ys = 0
bases_at (Ok (Some w)) b ys = overhang_of (is_reverse (flags_of b)) w.own.0 (record_ops b) w.mate.0 ys
bases_at (Err r) b ys = 0

-- 4
unfoldable pub overhang_at : Answer (Option PairPlaces) → List ℕ → List ℕ → Answer ℕ
overhang_at (Ok p) b ys = Ok (bases_at (Ok p) b ys)
overhang_at (Err r) b ys = Err r

-- the same by the pair test, whose refusal, a length's, is passed on before the places are looked at
abbrev pub pair_overhang : Answer Bool → List ℕ → ℤ → List ℕ → Answer ℕ
pair_overhang (Ok fr) b m ys = overhang_at (placed_pair fr b m) b ys
pair_overhang (Err r) b m ys = Err r

-- the pair test by the mate's ops
abbrev pub is_fr_by : List ℕ → List ℕ → Answer Bool
is_fr_by b ys = is_fr_with_mate b (clamp32 (pos (sum_of ref_len ys)))

-- mate ops: 1, 3; 0 for a list that is no valid mapped CIGAR; 2, 4
unfoldable pub past_mate_cigar : List ℕ → List ℕ → Answer ℕ
past_mate_cigar b ys =
    cond (is_short b) (Err ShortRecord)
    (cond (ltb most_ops (length ys)) (Err TooManyOps)
    (cond (valid_mapped ys) (pair_overhang (is_fr_by b ys) b (mate_pos_of b) ys) (Ok 0)))

-- the mate's record: 1, 2, 4
unfoldable pub past_mate_record : List ℕ → List ℕ → Answer ℕ
past_mate_record b m =
    cond (is_short b) (Err ShortRecord)
    (cond (is_short m) (Err ShortRecord)
    (pair_overhang (is_primary_fr b m) b (pos_of m) (record_ops m)))

-- mate text, with room d for its ops xs: 4, 6
unfoldable pub list_left : Answer (Option PairPlaces) → List ℕ → List ℕ → List ℕ → Outcome (Answer Overhang)
list_left (Err why) b xs d = keeps (Err why) d
list_left (Ok p) b xs d =
    cond (ltb (length d) (length xs)) (keeps (Err NoRoom) d)
    (record { answer = Ok (record { bases = bases_at (Ok p) b xs; written = length xs }); left = splice d 0 xs })

-- the same by the pair test: 2, 4
abbrev pub pair_list_left : Answer Bool → List ℕ → List ℕ → List ℕ → Outcome (Answer Overhang)
pair_list_left (Ok fr) b xs d = list_left (placed_pair fr b (mate_pos_of b)) b xs d
pair_list_left (Err r) b xs d = keeps (Err r) d

-- mate text: 1; overhang 0 for a text that the strict reader refuses by 5; 3
unfoldable pub past_mate_text : List ℕ → List ℕ → List ℕ → Outcome (Answer Overhang)
past_mate_text b s d =
    cond (is_short b) (keeps (Err ShortRecord) d)
    (cond (not (strict s)) (keeps (Ok (record { bases = 0; written = 0 })) d)
    (cond (ltb most_ops (length (text_ops s))) (keeps (Err TooManyOps) d)
    (pair_list_left (is_fr_by b (text_ops s)) b (text_ops s) d)))

abbrev pub tell_overhang : Answer Overhang → Told
tell_overhang (Ok got) = answered (pos got.bases ∷ pos got.written ∷ [])
tell_overhang (Err r) = refused r
