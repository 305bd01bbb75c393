-- The rule by its cases: no level left; the ends agree; one level up. And what the functions of the levels ask, kept from level to level.
use Prim.Native.Nat.{ℕ, zero, suc, ◌+◌, ◌-◌, ◌*◌, ◌/◌, ◌≤◌, ◌<◌, ◌^◌}
use mathlib.Core.Path.{◌≡◌, refl, subst}
use native.Mathlib.Omega.{arith}
use native.Mathlib.Nat.{lt_of_lt_of_le}
use native.Mathlib.Numerals.{sub-one}
use borrow.Author.Tests.{eq-eqb, ne_eqb, eqb-true}
use lib.Dec.{eqb}
use lib.Pow.{pow_mono, shr_lt, shr_mono, shr_le}
use Rattle.lists.proofs.Tables.{below_at}
use Rattle.sam.specs.Bins.{first_of, bin_up}
use Rattle.csi_levels.specs.InnerLevels.{Sound}

-- a level of at most 8 has at most 2^24 bins
few : (l : ℕ) → l ≤ 8 → 2 ^ (3 * l) ≤ 16777216
few l h = pow_mono {i = 3 * l} {j = 24} (omega arith)

-- first numbers by shifts of the largest: one test, computed over the levels 0 to 8
first_shifted : (l : ℕ) → l ≤ 8 → 2396745 / 2 ^ (24 - 3 * l) ≡ first_of l
unfolding first_of
first_shifted l h = eqb-true _ _ (below_at (λ (k : ℕ). eqb (2396745 / 2 ^ (24 - 3 * k)) (first_of k)) 9 l refl (omega arith))

pub first_code : (l : ℕ) → l ≤ 8 → (2396745 / 2 ^ (24 - 3 * l) ≡ first_of l) × (2396745 / 2 ^ (24 - 3 * l) < 16777216)
first_code l h = let p = shr_le 2396745 (24 - 3 * l) in (first_shifted l h, omega arith)

pub none_left : (left shift beg last : ℕ) → left ≡ 0 → 0 ≡ bin_up left shift beg last
unfolding bin_up
none_left left shift beg last e = rw e

module _ (shift beg last : ℕ) where
  pub agreed : (left : ℕ) → 0 < left → beg / 2 ^ shift ≡ last / 2 ^ shift → first_of left + beg / 2 ^ shift ≡ bin_up left shift beg last
  unfolding bin_up
  agreed zero h e = absurd (omega arith)
  agreed (suc left) h e = simp (eq-eqb (beg / 2 ^ shift) (last / 2 ^ shift) e)

  pub differ : (left : ℕ) → 0 < left → (beg / 2 ^ shift ≡ last / 2 ^ shift → ⊥) → bin_up (left - 1) (shift + 3) beg last ≡ bin_up left shift beg last
  unfolding bin_up
  differ zero h e = absurd (omega arith)
  differ (suc left) h e = simp (ne_eqb (beg / 2 ^ shift) (last / 2 ^ shift) e, sub-one)

module _ (left shift beg last : ℕ) (k : Sound left shift beg last) where
  pub order_up : beg / 2 ^ shift ≤ last / 2 ^ shift
  order_up = shr_mono shift k.order

  -- a place on a level is one of its bins
  pub last_small : last / 2 ^ shift < 16777216
  last_small = lt_of_lt_of_le (shr_lt (3 * left) shift k.whole) (few left k.few)

  pub sound_up : 0 < left → Sound (left - 1) (shift + 3) beg last
  sound_up h =
      let f = k.few in
      let b = k.bits in
      let e : 3 * left + shift ≡ 3 * (left - 1) + (shift + 3) = omega arith in
      record { few = omega arith; bits = omega arith; order = k.order; whole = subst (λ (n : ℕ). last < 2 ^ n) e k.whole }
