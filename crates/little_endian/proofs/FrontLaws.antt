-- A number at the front stays the same whatever follows.
use Prim.Native.Nat.{ℕ, ◌+◌, ◌≤◌}
use mathlib.Core.Path.{◌≡◌}
use mathlib.Core.List.{List, ◌++◌}
use native.Mathlib.Omega.{arith}
use lib.ListN.{length, get_or-append}
use Rattle.sam.specs.Record.{le32}

pub front_number : (s ys : List ℕ) → 4 ≤ length s → le32 (s ++ ys) 0 ≡ le32 s 0
front_number s ys h =
    simp (get_or-append s ys 0 0 (omega arith), get_or-append s ys 0 (0 + 1) (omega arith), get_or-append s ys 0 (0 + 2) (omega arith), get_or-append s ys 0 (0 + 3) (omega arith))
