-- Worked alignments: what separates blocks, and what does not.
use Prim.Native.Nat.{ℕ}
use mathlib.Core.Path.{◌≡◌, refl}
use mathlib.Core.List.{[], ◌∷◌}
use Rattle.lists.specs.Lists.{sum_of}
use Rattle.sam.specs.Op.{ref_len, is_ref}
use Rattle.bed_rules.specs.Blocks.{Block, blocks, blocks_of, stretches_from}

abbrev block : ℕ → ℕ → Block
block start size = record { start = start; size = size }

-- 5M0N5M: an N separates, whatever its length
pub empty_skip : blocks (80 ∷ 3 ∷ 80 ∷ []) ≡ block 0 5 ∷ block 5 5 ∷ []
unfolding blocks blocks_of stretches_from sum_of ref_len is_ref
empty_skip = refl

-- 6M14N5M, the specification's r004, and 5M2D5M: an N separates, a D does not
pub skip_and_deletion : (blocks (96 ∷ 227 ∷ 80 ∷ []) ≡ block 0 6 ∷ block 20 5 ∷ []) × (blocks (80 ∷ 34 ∷ 80 ∷ []) ≡ block 0 12 ∷ [])
unfolding blocks blocks_of stretches_from sum_of ref_len is_ref
skip_and_deletion = (refl, refl)
