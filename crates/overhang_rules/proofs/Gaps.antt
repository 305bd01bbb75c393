-- The gap of a read that stops short is never negative, so the Rust's cast to an unsigned number takes it as it is: a clamped sum keeps an order with a number of an i32.
use Prim.Native.Nat.{ℕ, ◌+◌, ◌≤◌, ◌<◌}
use mathlib.Core.Path.{◌≡◌, refl}
use mathlib.Core.Bool.{Bool, true, false}
use mathlib.Core.List.{List}
use native.Mathlib.Omega.{arith}
use lib.IntN.{ℤ, pos, ◌+ℤ◌, ◌-ℤ◌}
use lib.Dec.{ltb}
use lib.Signed.{lt_z, le_z}
use mir.Syntax.{w32}
use mir.Val.{SFits}
use borrow.Author.Tests.{ltb-true, ltb-false}
use Rattle.lists.specs.Lists.{sum_of}
use Rattle.sam.specs.Op.{ref_len}
use Rattle.signed.specs.Whole.{clamp32}
use Rattle.signed.proofs.Halves.{up, dn, plus, minus, is_lt, is_le, is_gt, leℤ, top32, low32, sfits32}
use Rattle.signed.proofs.Ranges.{clamp_in, clamp_above, clamp_below}
use Rattle.overhang_rules.specs.Reach.{soft_clip}
use Rattle.overhang_rules.specs.Overhang.{end_at, end_of, soft_start, soft_end}
use Rattle.overhang_rules.proofs.Places.{clamp_fits}

-- a ≤ b, by the halves
abbrev AtMost : ℤ → ℤ → Type 0
AtMost a b = up a + dn b ≤ up b + dn a

module _ (a z : ℤ) (f : SFits w32 a) where
  clamp_over : AtMost a z → AtMost a (clamp32 z)
  clamp_over h = go (ltb (up z) (dn z + 2147483648)) refl (ltb (up z + 2147483648) (dn z)) refl
    where
      go : (b : Bool) → ltb (up z) (dn z + 2147483648) ≡ b → (c : Bool) → ltb (up z + 2147483648) (dn z) ≡ c → AtMost a (clamp32 z)
      go false e c g = rw (clamp_above z (ltb-false (up z) (dn z + 2147483648) e)) (omega (arith, top32 a f))
      go true e true g = absurd (omega (arith, low32 a f, ltb-true (up z + 2147483648) (dn z) g))
      go true e false g = rw (clamp_in z (ltb-true (up z) (dn z + 2147483648) e) (ltb-false (up z + 2147483648) (dn z) g)) h

  clamp_under : AtMost z a → AtMost (clamp32 z) a
  clamp_under h = go (ltb (up z) (dn z + 2147483648)) refl (ltb (up z + 2147483648) (dn z)) refl
    where
      go : (b : Bool) → ltb (up z) (dn z + 2147483648) ≡ b → (c : Bool) → ltb (up z + 2147483648) (dn z) ≡ c → AtMost (clamp32 z) a
      go false e c g = absurd (omega (arith, top32 a f, ltb-false (up z) (dn z + 2147483648) e))
      go true e true g = rw (clamp_below z (ltb-true (up z + 2147483648) (dn z) g)) (omega (arith, low32 a f))
      go true e false g = rw (clamp_in z (ltb-true (up z) (dn z + 2147483648) e) (ltb-false (up z + 2147483648) (dn z) g)) h

-- a clamped count is not negative
count_over : (n : ℕ) → AtMost (pos 0) (clamp32 (pos n))
count_over n = clamp_over (pos 0) (pos n) (sfits32 (pos 0) (omega arith) (omega arith)) (omega arith)

-- n positions on, an order stays
after_over : (a q : ℤ) (n : ℕ) → SFits w32 a → AtMost a q → AtMost a (clamp32 (q +ℤ clamp32 (pos n)))
after_over a q n f h = clamp_over a (q +ℤ clamp32 (pos n)) f (omega (arith, plus q (clamp32 (pos n)), count_over n))

-- an alignment's end lies at or after each position before its start
end_over : (a m : ℤ) (n : ℕ) → SFits w32 a → up a + dn m < up m + dn a → AtMost a (end_at m n)
unfolding end_at
end_over a m n f h = after_over a (clamp32 (m -ℤ pos 1)) n f (clamp_over a (m -ℤ pos 1) f (omega (arith, minus m (pos 1))))

module _ (p m : ℤ) (xs ys : List ℕ) where
  pub gap_forward : lt_z (end_of p xs) m ≡ true → le_z (end_of p xs) (soft_end m ys) ≡ true
  unfolding end_at soft_end
  gap_forward t =
      leℤ (end_of p xs) (soft_end m ys)
      (after_over (end_of p xs) (end_of m ys) (soft_clip false ys) fits (end_over (end_of p xs) m (sum_of ref_len ys) fits (is_lt (end_of p xs) m t)))
    where
      fits : SFits w32 (end_of p xs)
      fits = clamp_fits _

  pub gap_reverse : SFits w32 p → SFits w32 m → lt_z (end_of m ys) p ≡ true → le_z (soft_start m ys) p ≡ true
  unfolding soft_start
  gap_reverse f g t = leℤ (soft_start m ys) p (go (le_z m p) refl)
    where
      lead : AtMost (soft_start m ys) m
      lead = clamp_under m (m -ℤ clamp32 (pos (soft_clip true ys))) g (omega (arith, minus m (clamp32 (pos (soft_clip true ys))), count_over (soft_clip true ys)))

      go : (b : Bool) → le_z m p ≡ b → AtMost (soft_start m ys) p
      go true e = omega (arith, is_le m p e, lead)
      go false e = absurd (omega (arith, end_over p m (sum_of ref_len ys) f (is_gt m p e), is_lt (end_of m ys) p t))
