-- Document 01, module 5, `is_valid_mapped_cigar`: "non-empty, no zero length, H only first or last, only H between an S and one end,
-- codes 0 to 8, at least one reference op."
use Rattle.std.specs.Prelude.{ℕ, Bool, true, false, cond, not, ◌&&◌, ◌||◌, List, [], ◌∷◌, ◌++◌, ltb, eqb}
use Rattle.sam.specs.Op.{len_of, code_of, is_ref}

unfoldable pub is_empty : List ℕ → Bool
is_empty [] = true
is_empty (o ∷ xs) = false

abbrev pub soft_op : ℕ → Bool
soft_op o = eqb (code_of o) 4

abbrev pub hard_op : ℕ → Bool
hard_op o = eqb (code_of o) 5

unfoldable pub all_hard : List ℕ → Bool
all_hard [] = true
all_hard (o ∷ xs) = hard_op o && all_hard xs

unfoldable pub any_ref : List ℕ → Bool
any_ref [] = false
any_ref (o ∷ xs) = is_ref (code_of o) || any_ref xs

-- a rule holds of each op o, with the ops on its left and those on its right
unfoldable pub each : (List ℕ → ℕ → List ℕ → Bool) → List ℕ → List ℕ → Bool
each rule left [] = true
each rule left (o ∷ right) = rule left o right && each rule (left ++ (o ∷ [])) right

-- the rules
abbrev pub no_zero : List ℕ → ℕ → List ℕ → Bool
no_zero left o right = ltb 0 (len_of o)

abbrev pub hard_outside : List ℕ → ℕ → List ℕ → Bool
hard_outside left o right = cond (hard_op o) (is_empty left || is_empty right) true

abbrev pub soft_outside : List ℕ → ℕ → List ℕ → Bool
soft_outside left o right = cond (soft_op o) (all_hard left || all_hard right) true

abbrev pub in_table : List ℕ → ℕ → List ℕ → Bool
in_table left o right = ltb (code_of o) 9

unfoldable pub valid_mapped : List ℕ → Bool
valid_mapped xs =
    not (is_empty xs) && each no_zero [] xs && each hard_outside [] xs && each soft_outside [] xs && each in_table [] xs && any_ref xs
