-- Document 01, module 1: fields of a record, with refusal 1 under 32 bytes, and the part of it that holds the ops.
use Rattle.std.specs.Prelude.{ℕ, ◌*◌, cond, List, [], ◌∷◌, ℤ, pos, length, take, drop, ltb, Err, Ok}
use Rattle.answers.specs.Answer.{Answer}
use Rattle.answers.specs.declared.Pos0.{Pos0}
use Rattle.sam.specs.Record.{is_short, ops_start, op_count_of, ops_end}
use Rattle.answers.specs.Answers.{Told, answered, refused, number_of}
use Rattle.answers.specs.declared.Refusal.TheVariants.{ShortRecord}
use Rattle.fields.specs.declared.Area.{Area}

-- what is read of a record that has its fixed part
abbrev pub field : {A : Type 0} → (List ℕ → A) → List ℕ → Answer A
field f b = cond (is_short b) (Err ShortRecord) (Ok (f b))

abbrev pub int_field : (List ℕ → ℤ) → List ℕ → Answer ℤ
int_field f b = field f b

abbrev pub nat_field : (List ℕ → ℕ) → List ℕ → Answer ℕ
nat_field f b = field f b

-- a position, counted from 0
abbrev pub pos_field : (List ℕ → ℤ) → List ℕ → Answer Pos0
pos_field f b = field (λ (r : List ℕ). record { 0 = f r }) b

-- where the ops lie, 0 and 0 where their area ends past the record
unfoldable pub cigar_area : List ℕ → Answer Area
cigar_area b =
    cond (is_short b) (Err ShortRecord)
    (cond (ltb (length b) (ops_end b)) (Ok (record { start = 0; size = 0 })) (Ok (record { start = ops_start b; size = 4 * op_count_of b })))

abbrev pub tell_area : Answer Area → Told
tell_area (Ok got) = answered (pos got.start ∷ pos got.size ∷ [])
tell_area (Err r) = refused r

-- that part of the record; an empty part where the area overruns, and beside refusal 1
unfoldable pub cigar_part : List ℕ → List ℕ
cigar_part b =
    cond (is_short b) []
    (cond (ltb (length b) (ops_end b)) [] (take (4 * op_count_of b) (drop (ops_start b) b)))

-- and the number beside it
unfoldable pub part_refusal : List ℕ → ℕ
part_refusal b = cond (is_short b) (number_of ShortRecord) 0
