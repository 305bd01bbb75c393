-- Document 02, item 1: "such a record holds two ops, an S as long as the sequence and an N of the reference length, and the true list stands in tag CG as a `B` array of
-- type `I`." "A placeholder is exactly two ops, an S of length l_seq and an N of any length. The tags are walked only behind one; the first CG counts. Without
-- placeholder or CG, the ordinary list stands." Refusals: "1, 2 for an overrun op area, 12, behind a placeholder only, bases, qualities or tags up to the first CG that
-- overrun, or among these tags a type not listed, 13 CG of another type, 3 above the new limit; in this order."
use Rattle.std.specs.Prelude.{ℕ, ◌+◌, ◌*◌, cond, not, List, [], ◌∷◌, ltb, pos, length, take, drop, Ok, Err}
use Rattle.answers.specs.Answer.{Answer}
use Rattle.sam.specs.Record.{is_short, seq_len_of, op_count_of, ops_start, ops_end, ops_in, tags_start}
use Rattle.sam.specs.Tags.{Tag, Tags, Ends, Breaks, Then, tags_of, is_cg, is_op_array, array_count, is_placeholder}
use Rattle.oplist.specs.Ops.{most_long_ops, record_ops}
use Rattle.answers.specs.Answers.{Told, answered, refused, number_of}
use Rattle.answers.specs.declared.Refusal.{Refusal}
use Rattle.answers.specs.declared.Refusal.TheVariants.{ShortRecord, AreaOverrun, TooManyOps, BadTags, OtherCg}
use Rattle.oplist.specs.declared.Area.{Area}

-- ---- what is made of a list that lies at a place

-- a list that is found: its place, and how many ops it has
abbrev pub found : ℕ → ℕ → Answer Area
found at n = Ok (record { at = at; n = n })

-- "the part of the record holding the list", and the refusal's number beside it; an empty part beside a refusal
abbrev pub part_of : List ℕ → Answer Area → List ℕ
part_of b (Ok got) = take (4 * got.n) (drop got.at b)
part_of b (Err r) = []

abbrev pub refusal_of : Answer Area → ℕ
refusal_of (Ok got) = 0
refusal_of (Err r) = number_of r

-- a call that reads the list: what it makes of the ops, behind the reader's refusals
abbrev pub read_from : {A : Type 0} → (Refusal → A) → (List ℕ → A) → List ℕ → Answer Area → A
read_from stop make b (Ok got) = make (ops_in b got.at got.n)
read_from stop make b (Err r) = stop r

-- what is told of the list: where in the record it begins, and its bytes
abbrev pub tell_true_list : Answer Area → Told
tell_true_list (Ok got) = answered (pos got.at ∷ pos (4 * got.n) ∷ [])
tell_true_list (Err r) = refused r

-- ---- the true list

-- the ordinary list
abbrev pub own_list : List ℕ → Answer Area
own_list b = Ok (record { at = ops_start b; n = op_count_of b })

-- the list in a CG whose value lies at a place: behind its type and its count, five bytes. 13, 3
unfoldable pub list_in : ℕ → Tag → Answer Area
list_in at t =
    cond (not (is_op_array t)) (Err OtherCg)
    (cond (ltb most_long_ops (array_count t)) (Err TooManyOps)
    (Ok (record { at = at + 5; n = array_count t })))

-- the list in the first CG of tags that lie at a place, and where there is none the list `without`. 12 up to the first CG, then the CG's own
unfoldable pub first_cg : Answer Area → ℕ → Tags → Answer Area
first_cg without at Ends = without
first_cg without at Breaks = Err BadTags
first_cg without at (Then t ts) = cond (is_cg t) (list_in (at + 3) t) (first_cg without (at + (3 + length t.value)) ts)

-- behind a placeholder: 12 where bases or qualities overrun, then by the tags
unfoldable pub behind_placeholder : List ℕ → Answer Area
behind_placeholder b = cond (ltb (length b) (tags_start b)) (Err BadTags) (first_cg (own_list b) (tags_start b) (tags_of (drop (tags_start b) b)))

-- THE READER
unfoldable pub true_list : List ℕ → Answer Area
true_list b =
    cond (is_short b) (Err ShortRecord)
    (cond (ltb (length b) (ops_end b)) (Err AreaOverrun)
    (cond (is_placeholder (seq_len_of b) (record_ops b)) (behind_placeholder b) (own_list b)))
