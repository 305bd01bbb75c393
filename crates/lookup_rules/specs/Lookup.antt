-- Document 01, module 8: "The 1-based query position of a reference position. In D or N: none, or if asked the last query base before it, at least 1."
use Rattle.std.specs.Prelude.{ℕ, ◌+◌, ◌-◌, max, Bool, true, false, cond, List, [], ◌∷◌, ◌++◌, ltb, pos, length, Ok, Err, Some, None, Option, ℤ}
use Rattle.answers.specs.Answer.{Answer}
use Rattle.sam.specs.Columns.{Over, Base, Gap, Off, Spot, past}
use Rattle.sam.specs.Op.{code_of, is_query, query_len, ref_len}
use Rattle.answers.specs.Answers.{Told, answered, refused, some, none}
use Rattle.answers.specs.declared.Refusal.TheVariants.{TooManyOps, BadStart}
use Rattle.oplist.specs.Ops.{most_ops, most_long_ops}
use Rattle.lookup_rules.specs.Examined.{examined}
use Rattle.lookup_rules.specs.declared.Found.{Found}

-- the op that decides: the one that holds reference base k of those from it on
abbrev pub decides : ℕ → ℕ → Bool
decides o k = ltb k (ref_len o)

-- what is seen there, by whether the op consumes the query
abbrev pub spot_in : Bool → ℕ → Spot
spot_in true k = record { before = k; over = Base }
spot_in false k = record { before = 0; over = Gap }

-- what is seen at reference base k of the alignment, counted from 0
unfoldable pub look : List ℕ → ℕ → Spot
look [] k = record { before = 0; over = Off }
look (o ∷ xs) k = cond (decides o k) (spot_in (is_query (code_of o)) k) (past (query_len o) (look xs (k - ref_len o)))

-- "The 1-based query position"; "In D or N: none, or if asked the last query base before it, at least 1"
abbrev pub read_over : Bool → ℕ → Over → Answer (Option ℕ)
read_over asked n Base = Ok (Some (n + 1))
read_over asked n Gap = cond asked (Ok (Some (max n 1))) (Ok None)
read_over asked n Off = Ok None

-- of a list of at most `limit` ops: 3, 9 for an alignment start outside 1 to 2,147,483,648; none before the start
unfoldable pub lookup_up_to : ℕ → List ℕ → ℕ → ℕ → Bool → Answer (Option ℕ)
unfolding look
lookup_up_to limit xs start at asked =
    cond (ltb limit (length xs)) (Err TooManyOps)
    (cond (ltb start 1) (Err BadStart)
    (cond (ltb 2147483648 start) (Err BadStart)
    (cond (ltb at start) (Ok None)
    (read_over asked (look xs (at - start)).before (look xs (at - start)).over))))

-- document 02, item 9: "Return, beside the answer, how many ops were examined"; a refusal has no count
abbrev pub counted : Answer (Option ℕ) → ℕ → Answer Found
counted (Ok p) count = Ok (record { place = p; examined = count })
counted (Err r) count = Err r

unfoldable pub looked_up_to : ℕ → List ℕ → ℕ → ℕ → Bool → Answer Found
unfolding lookup_up_to examined
looked_up_to limit xs start at asked = counted (lookup_up_to limit xs start at asked) (examined xs start at)

-- `read_pos_at_ref_pos_raw`
abbrev pub looked : List ℕ → ℕ → ℕ → Bool → Answer Found
looked xs start at asked = looked_up_to most_ops xs start at asked

-- `long_read_pos_at_ref_pos_raw`
abbrev pub long_looked : List ℕ → ℕ → ℕ → Bool → Answer Found
long_looked xs start at asked = looked_up_to most_long_ops xs start at asked

-- a place, or none
abbrev pub place_values : Option ℕ → List ℤ
place_values (Some n) = some (pos n)
place_values None = none

abbrev pub tell_found : Answer Found → Told
tell_found (Ok f) = answered (place_values f.place ++ (pos f.examined ∷ []))
tell_found (Err r) = refused r
