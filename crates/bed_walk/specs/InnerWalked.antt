-- What an op more does to a walk, w before it and w' behind it: what was passed and what is left make the same blocks, reference bases and answer to whether 14 is due.
use Rattle.std.specs.Prelude.{ℕ, ◌+◌, ◌≡◌, Bool, false, cond, not, ◌||◌, ◌&&◌, List, [], ◌∷◌, ◌++◌, eqb, length}
use Rattle.sam.specs.Op.{ref_len}
use Rattle.bed_rules.specs.Blocks.{is_skip, Block}
use Rattle.bed_rules.specs.InnerWalk.{blocks_from, unfit_from}
use Rattle.bed_walk.specs.declared.Walk.{Walk}

-- the block that ends with the op: an N ends the open stretch
abbrev pub ending : Walk → ℕ → List Block
ending w o = cond (not (is_skip o) || eqb w.size 0) [] (record { start = w.start; size = w.size } ∷ [])

-- an N before the first block
abbrev pub is_early : Walk → ℕ → Bool
is_early w o = is_skip o && eqb (w.n + w.size) 0

pub record Passes (w : Walk) (o : ℕ) (w' : Walk) : Type 0 where
  pub refs : w'.start + w'.size ≡ w.start + w.size + ref_len o
  pub count : w'.n ≡ w.n + length (ending w o)
  pub blocks : (xs : List ℕ) → blocks_from w.start w.size (o ∷ xs) ≡ ending w o ++ blocks_from w'.start w'.size xs
  pub fit : (xs : List ℕ) → is_early w o ≡ false → unfit_from w.n w.size (o ∷ xs) ≡ unfit_from w'.n w'.size xs
