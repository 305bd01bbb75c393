-- Each op is at most the bits of all of them, so its length is at most theirs, and the sum of the lengths at most that as often as there are ops.
use Prim.Native.Nat.{ℕ, ◌+◌, ◌*◌, ◌/◌, ◌≤◌, ◌<◌}
use mathlib.Core.Path.{◌≡◌}
use mathlib.Core.List.{List}
use native.Mathlib.Nat.{add-mul, one-mul}
use native.Mathlib.Omega.{arith}
use lib.Bits.{bit_or, or_add_and, and_le_l, and_le_r}
use lib.ListN.{length, get_or, drop}
use Rattle.lists.specs.Lists.{sum_of}
use Rattle.lists.proofs.Walks.{sum_step, sum_done}
use Rattle.sam.specs.Op.{len_of}

-- the first i ops are at most any m that the bits are at most
abbrev pub Bounded : ℕ → ℕ → List ℕ → Type 0
Bounded bits i xs = (m : ℕ) → bits ≤ m → sum_of len_of xs ≤ i * (m / 16) + sum_of len_of (drop i xs)

module _ (xs : List ℕ) (i bits : ℕ) (B : Bounded bits i xs) where
  pub bits_turn : (x : ℕ) → x ≡ get_or xs i 0 → i < length xs → Bounded (bit_or bits x) (i + 1) xs
  bits_turn x e h m l =
      let o = or_add_and bits x in
      let s = sum_step len_of xs i x e h in
      let p = add-mul i 1 (m / 16) in
      let q = one-mul (m / 16) in
      let a = and_le_l bits x in
      let b = and_le_r bits x in
      let z = B m (omega arith) in
      omega arith

  pub bits_done : i ≡ length xs → sum_of len_of xs ≤ length xs * (bits / 16)
  bits_done e =
      let s = sum_done len_of xs i (omega arith) in
      let z = B bits (omega arith) in
      rw (← e) (omega arith)
