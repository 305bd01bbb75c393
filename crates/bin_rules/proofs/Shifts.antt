-- Shifts, low bits of a sum, and the first agreement by cases.
use Prim.Native.Nat.{ℕ, suc, ◌+◌, ◌-◌, ◌%◌, ◌^◌, ◌≤◌, ◌<◌}
use mathlib.Core.Path.{◌≡◌, sym, ◌∙◌}
use mathlib.Core.Bool.{Bool, true, false, not, cond}
use mathlib.Core.List.{List, ◌∷◌}
use native.Mathlib.Omega.{arith}
use lib.Dec.{T, ltb, ltb→lt, nltb→le}
use lib.IntN.{ℤ, pos, negsuc, ◌+ℤ◌}
use lib.Signed.{mag_shr}
use mir.Syntax.{w32}
use mir.Val.{SFits, of_z, to_z}
use mir.Facts.{to_z-of_z}
use mir.ValLaws.{sfits_le}
use Rattle.signed.specs.Whole.{raised}
use Rattle.signed.specs.Equal.{eqℤ}
use Rattle.bin_rules.specs.Bin.{Shift, shr, low16, first_agreed}

pub shr-fits : (z : ℤ) (k : ℕ) → SFits w32 z → SFits w32 (shr z k)
shr-fits z k f = sfits_le (mag_shr z (2 ^ k)) f

pub low_raised : (z : ℤ) → SFits w32 z → raised z % 65536 ≡ low16 z
unfolding raised low16
low_raised (pos n) f = omega arith
low_raised (negsuc n) f = omega (arith, f.sfits)

low_sub : (t : Bool) (o n : ℕ) → (T t → o < suc n) → (T (not t) → suc n ≤ o) → (o + low16 (negsuc n)) % 65536 ≡ low16 (cond t (negsuc (suc n - suc o)) (pos (o - suc n)))
unfolding low16
low_sub true o n f g = let h : o < suc n = f tt in omega arith
low_sub false o n f g = let h : suc n ≤ o = g tt in omega arith

pub low_add : (o : ℕ) (z : ℤ) → (o + low16 z) % 65536 ≡ low16 (pos o +ℤ z)
unfolding low16
low_add o (pos n) = omega arith
low_add o (negsuc n) = low_sub (ltb o (suc n)) o n (ltb→lt o (suc n)) (nltb→le o (suc n))

-- what calls with signed arguments tell: an argument is read back from its bits
module _ (beg last : ℤ) (f : SFits w32 beg) (g : SFits w32 last) where
  pub agrees : (k : ℕ) (r t : Bool) → r ≡ eqℤ (shr (to_z w32 (of_z w32 beg)) k) (shr (to_z w32 (of_z w32 last)) k) → r ≡ t → eqℤ (shr beg k) (shr last k) ≡ t
  agrees k r t e q = sym (simp (to_z-of_z f, to_z-of_z g) at e) ∙ q

pub placed : (beg : ℤ) → SFits w32 beg → (first k r : ℕ) → r ≡ low16 (pos first +ℤ shr (to_z w32 (of_z w32 beg)) k) → r ≡ low16 (pos first +ℤ shr beg k)
placed beg f first k r e = simp (to_z-of_z f) at e

-- the cases of `first_agreed`
module _ (beg last : ℤ) (l : Shift) (ls : List Shift) where
  pub agree_here : eqℤ (shr beg l.shift) (shr last l.shift) ≡ true → first_agreed (l ∷ ls) beg last ≡ pos l.offset +ℤ shr beg l.shift
  unfolding first_agreed
  agree_here a = simp a

  pub agree_later : eqℤ (shr beg l.shift) (shr last l.shift) ≡ false → first_agreed (l ∷ ls) beg last ≡ first_agreed ls beg last
  unfolding first_agreed
  agree_later a = simp a
