-- "Reading what was printed", and printing what was read: a text comes back without its leading zeros.
use Rattle.std.specs.Prelude.{ℕ, Bool, true, false, cond, not, ◌&&◌, List, [], ◌∷◌, eqb}
use Rattle.sam.specs.Text.{is_digit}

-- a text without its leading zeros: a 0 goes where no kept digit of its number stands before it
unfoldable pub without_zeros : Bool → List ℕ → List ℕ
without_zeros kept [] = []
without_zeros kept (b ∷ s) =
    cond (is_digit b)
    (cond (not kept && eqb b 48) (without_zeros false s) (b ∷ without_zeros true s))
    (b ∷ without_zeros false s)
