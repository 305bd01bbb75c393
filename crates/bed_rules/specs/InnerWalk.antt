-- What the functions of `bed` go by: the blocks of what is left of a list behind the stretch that is open there, by its start and its size so far; and whether 14 is due.
use Rattle.std.specs.Prelude.{ℕ, ◌+◌, Bool, true, cond, List, [], ◌∷◌, ◌++◌, eqb, length, Some, None, Option}
use Rattle.lists.specs.Lists.{sum_of}
use Rattle.sam.specs.Op.{ref_len}
use Rattle.bed_rules.specs.Blocks.{is_skip, Block, blocks}
use Rattle.bed_rules.specs.Bed.{unfit}
use Rattle.bed_rules.specs.declared.Measured.{Measured}

-- what the open stretch makes where it ends
abbrev pub block_of : ℕ → ℕ → List Block
block_of start size = cond (eqb size 0) [] (record { start = start; size = size } ∷ [])

unfoldable pub blocks_from : ℕ → ℕ → List ℕ → List Block
blocks_from start size [] = block_of start size
blocks_from start size (o ∷ xs) =
    cond (is_skip o) (block_of start size ++ blocks_from (start + size + ref_len o) 0 xs) (blocks_from start (size + ref_len o) xs)

-- whether an N stands before the first block or after the last, or there is none, where n blocks were passed
unfoldable pub unfit_from : ℕ → ℕ → List ℕ → Bool
unfit_from n size [] = eqb size 0
unfit_from n size (o ∷ xs) =
    cond (is_skip o) (cond (eqb (n + size) 0) true (unfit_from (n + length (block_of 0 size)) 0 xs)) (unfit_from n (size + ref_len o) xs)

-- what the measuring pass tells of a list
unfoldable pub measured : List ℕ → Option Measured
measured xs = cond (unfit xs) None (Some (record { blocks = length (blocks xs); refs = sum_of ref_len xs }))
