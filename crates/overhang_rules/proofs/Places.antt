-- Positions of an i32 as places, raised by 2^31: orders, differences and sums that are clamped within an i32 are those of naturals up to 2^32 - 1.
use Prim.Native.Nat.{ℕ, ◌+◌, ◌-◌, ◌≤◌, ◌<◌, min}
use mathlib.Core.Path.{◌≡◌, refl, sym, ap, ◌∙◌}
use mathlib.Core.Bool.{Bool, true, false}
use mathlib.Core.Logic.{⊎_elim}
use native.Mathlib.Omega.{arith}
use lib.IntN.{ℤ, pos, negsuc, ◌+ℤ◌, ◌-ℤ◌}
use lib.Dec.{ltb}
use lib.Signed.{lt_z}
use mir.Syntax.{w32}
use mir.Val.{SFits}
use borrow.Author.Tests.{lt-ltb, le-ltb, ltb-true, ltb-false}
use Rattle.signed.specs.Whole.{raised, natural, clamp32}
use Rattle.signed.proofs.Halves.{up, dn, plus, minus, is_lt, is_ge, one_half, raise_fact, low32, sfits32}
use Rattle.signed.proofs.Ranges.{clamp_in, clamp_above, clamp_below}

-- a clamped number is of an i32
pub clamp_fits : (z : ℤ) → SFits w32 (clamp32 z)
clamp_fits z = go (ltb (up z) (dn z + 2147483648)) refl (ltb (up z + 2147483648) (dn z)) refl
  where
    go : (a : Bool) → ltb (up z) (dn z + 2147483648) ≡ a → (b : Bool) → ltb (up z + 2147483648) (dn z) ≡ b → SFits w32 (clamp32 z)
    go false e b f = rw (clamp_above z (ltb-false (up z) (dn z + 2147483648) e)) (sfits32 (pos 2147483647) (omega arith) (omega arith))
    go true e true f = rw (clamp_below z (ltb-true (up z + 2147483648) (dn z) f)) (sfits32 (negsuc 2147483647) (omega arith) (omega arith))
    go true e false f =
        let h = ltb-true (up z) (dn z + 2147483648) e in
        let k = ltb-false (up z + 2147483648) (dn z) f in
        rw (clamp_in z h k) (sfits32 z h k)

-- n positions on
pub raised_after : (p : ℤ) (n : ℕ) → SFits w32 p → raised (clamp32 (p +ℤ pos n)) ≡ min (raised p + n) 4294967295
unfolding raised
raised_after p n f = go (ltb (raised p + n) 4294967296) refl
  where
    z : ℤ
    z = p +ℤ pos n

    go : (a : Bool) → ltb (raised p + n) 4294967296 ≡ a → raised (clamp32 z) ≡ min (raised p + n) 4294967295
    go true e =
        let l = ltb-true (raised p + n) 4294967296 e in
        let s = plus p (pos n) in
        let r = raise_fact p f in
        let b = low32 p f in
        let h : up z < dn z + 2147483648 = omega arith in
        let k : dn z ≤ up z + 2147483648 = omega arith in
        let q = raise_fact z (sfits32 z h k) in
        ap raised (clamp_in z h k) ∙ omega arith
    go false e =
        let l = ltb-false (raised p + n) 4294967296 e in
        let s = plus p (pos n) in
        let r = raise_fact p f in
        ap raised (clamp_above z (omega arith)) ∙ omega arith

module _ (t p : ℤ) (f : SFits w32 t) (g : SFits w32 p) where
  pub raised_lt : lt_z t p ≡ ltb (raised t) (raised p)
  raised_lt = go (lt_z t p) refl
    where
      go : (a : Bool) → lt_z t p ≡ a → a ≡ ltb (raised t) (raised p)
      go true e = sym (lt-ltb (raised t) (raised p) (omega (arith, is_lt t p e, raise_fact t f, raise_fact p g)))
      go false e = sym (le-ltb (raised t) (raised p) (omega (arith, is_ge t p e, raise_fact t f, raise_fact p g)))

  natural_up : (z : ℤ) → natural z ≡ up z
  natural_up (pos n) = refl
  natural_up (negsuc n) = refl

  -- the positions from p to before t
  pub raised_span : natural (t -ℤ p) ≡ raised t - raised p
  raised_span =
      let m = minus t p in
      let a = raise_fact t f in
      let b = raise_fact p g in
      natural_up (t -ℤ p) ∙ ⊎_elim (λ h. omega arith) (λ h. omega arith) (one_half (t -ℤ p))
