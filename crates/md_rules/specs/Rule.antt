-- Document 02, item 13: "replace M by runs of = and X." "D lengths must agree with the `^` parts: each D of nonzero length is exactly one such part, and no MD is left over;
-- I, S, H, P, N and codes 9 to 15 use no MD. A list already holding = or X is refused."
use Rattle.std.specs.Prelude.{ℕ, zero, suc, ◌+◌, Bool, true, false, cond, not, ◌&&◌, ◌||◌, List, [], ◌∷◌, ◌++◌, length, take, drop, ltb, eqb, Err, Ok}
use Rattle.answers.specs.Answer.{Answer}
use Rattle.lists.specs.Lists.{splice}
use Rattle.lists.specs.Runs.{holds}
use Rattle.sam.specs.Op.{len_of, code_of, op_of}
use Rattle.sam.specs.Md.{MdColumn, MdColumn.Match, MdColumn.Mismatch, MdColumn.Deleted}
use Rattle.oplist.specs.Ops.{most_ops}
use Rattle.answers.specs.Settled.{Outcome, keeps}
use Rattle.answers.specs.declared.Refusal.TheVariants.{TooManyOps, BadMd, MatchesTold, MdDisagrees, NoRoom}
use Rattle.md_rules.specs.Md.{well_formed, columns_of}

-- M, which may be a match or a mismatch
abbrev pub is_match : ℕ → Bool
is_match o = eqb (code_of o) 0

-- = and X, which are told apart
abbrev pub is_told : ℕ → Bool
is_told o = eqb (code_of o) 7 || eqb (code_of o) 8

-- a D of nonzero length
abbrev pub is_loss : ℕ → Bool
is_loss o = eqb (code_of o) 2 && ltb 0 (len_of o)

-- a column that is a base of the read, and its code
abbrev pub is_base : MdColumn → Bool
is_base Match = true
is_base Mismatch = true
is_base (Deleted n) = false

abbrev pub code_for : MdColumn → ℕ
code_for Match = 7
code_for Mismatch = 8
code_for (Deleted n) = 2

-- a base more in front of runs: it lengthens the first where that has its code
unfoldable pub joined : ℕ → List ℕ → List ℕ
joined c [] = op_of 1 c ∷ []
joined c (o ∷ os) = cond (eqb (code_of o) c) ((o + 16) ∷ os) (op_of 1 c ∷ (o ∷ os))

-- bases as their longest runs, ops of = and X
unfoldable pub runs : List MdColumn → List ℕ
runs [] = []
runs (c ∷ cs) = joined (code_for c) (runs cs)

-- whether the next n columns are bases
unfoldable pub bases : ℕ → List MdColumn → Bool
bases zero cs = true
bases (suc n) [] = false
bases (suc n) (c ∷ cs) = cond (is_base c) (bases n cs) false

-- how many reference bases the read lacks in the next column
unfoldable pub lost_at : List MdColumn → ℕ
lost_at [] = 0
lost_at (Match ∷ cs) = 0
lost_at (Mismatch ∷ cs) = 0
lost_at (Deleted n ∷ cs) = n

-- whether an op agrees with the columns that it comes to: an M uses as many bases as it is long, a D of nonzero length one column, of its length, and any other op nothing
unfoldable pub op_agrees : ℕ → List MdColumn → Bool
op_agrees o cs = cond (is_match o) (bases (len_of o) cs) (cond (is_loss o) (eqb (lost_at cs) (len_of o)) true)

-- the columns behind those that it uses
unfoldable pub op_leaves : ℕ → List MdColumn → List MdColumn
op_leaves o cs = cond (is_match o) (drop (len_of o) cs) (cond (is_loss o) (drop 1 cs) cs)

-- what it becomes: an M its runs, none for a 0M, and any other op itself
unfoldable pub op_told : ℕ → List MdColumn → List ℕ
op_told o cs = cond (is_match o) (runs (take (len_of o) cs)) (o ∷ [])

-- whether a list and MD agree: each op does, and no column is left over
unfoldable pub agrees : List ℕ → List MdColumn → Bool
agrees [] [] = true
agrees [] (c ∷ cs) = false
agrees (o ∷ xs) cs = cond (op_agrees o cs) (agrees xs (op_leaves o cs)) false

-- what each op of a list becomes, in order
unfoldable pub told : List ℕ → List MdColumn → List ℕ
told [] cs = []
told (o ∷ xs) cs = op_told o cs ++ told xs (op_leaves o cs)

-- `match_ops_from_md` into lent memory d: "20 malformed MD, 21 a list with = or X, 22 MD and list disagree; in this order after 3, before 6"
unfoldable pub match_ops : List ℕ → List ℕ → List ℕ → Outcome (Answer ℕ)
match_ops xs s d =
    cond (ltb most_ops (length xs)) (keeps (Err TooManyOps) d)
    (cond (not (well_formed s)) (keeps (Err BadMd) d)
    (cond (holds is_told xs) (keeps (Err MatchesTold) d)
    (cond (not (agrees xs (columns_of s))) (keeps (Err MdDisagrees) d)
    (cond (ltb (length d) (length (told xs (columns_of s)))) (keeps (Err NoRoom) d)
    (record { answer = Ok (length (told xs (columns_of s))); left = splice d 0 (told xs (columns_of s)) })))))
