-- Document 02, item 5: "N separates blocks; D stays within a block; stretches of reference length 0 make none. Block starts are relative".
use Rattle.std.specs.Prelude.{ℕ, Bool, cond, List, [], ◌∷◌, ◌++◌, eqb}
use Rattle.lists.specs.Lists.{sum_of}
use Rattle.sam.specs.Op.{code_of, ref_len}

-- N, a part of the reference that the read skips
abbrev pub is_skip : ℕ → Bool
is_skip o = eqb (code_of o) 3

-- a stretch is what stands between two N's, or an N and an end of the list: the ops before it, and its own
pub record Stretch : Type 0 where
  pub before : List ℕ
  pub ops : List ℕ

-- the stretches of a list of which `before` and then `ops` are passed, with no N among `ops`: each N ends a stretch, whatever its length, and the next begins behind it
unfoldable pub stretches_from : List ℕ → List ℕ → List ℕ → List Stretch
stretches_from before ops [] = record { before = before; ops = ops } ∷ []
stretches_from before ops (o ∷ xs) =
    cond (is_skip o)
    (record { before = before; ops = ops } ∷ stretches_from (before ++ (ops ++ (o ∷ []))) [] xs)
    (stretches_from before (ops ++ (o ∷ [])) xs)

-- where a block starts, counted from chromStart, and its size
pub record Block : Type 0 where
  pub start : ℕ
  pub size : ℕ

-- a stretch's size is its reference length, and one of size 0 makes no block
unfoldable pub blocks_of : List Stretch → List Block
blocks_of [] = []
blocks_of (s ∷ ss) =
    cond (eqb (sum_of ref_len s.ops) 0) (blocks_of ss)
    (record { start = sum_of ref_len s.before; size = sum_of ref_len s.ops } ∷ blocks_of ss)

unfoldable pub blocks : List ℕ → List Block
blocks xs = blocks_of (stretches_from [] [] xs)
