-- What it says of numbers that neither 17 nor 18 is due.
use Prim.Native.Nat.{ℕ, ◌+◌, ◌*◌, ◌≤◌, ◌<◌, ◌^◌}
use mathlib.Core.Path.{◌≡◌, refl}
use mathlib.Core.Bool.{Bool, true, false, ◌&&◌}
use native.Mathlib.Omega.{arith}
use borrow.Author.Tests.{le-leb, lt-ltb, leb-true, ltb-true}
use lib.Dec.{leb, ltb}
use lib.IntN.{ℤ, pos, negsuc}
use Rattle.lists.proofs.Absurd.{false_true}
use Rattle.signed.specs.Whole.{natural}
use Rattle.csi_rules.specs.Csi.{served, inside}

both : (a b : Bool) → (a && b) ≡ true → (a ≡ true) × (b ≡ true)
both true b e = (refl, e)
both false b e = false_true e

-- min_shift and depth in range
pub record Levels (s d : ℕ) : Type 0 where
  pub low : 10 ≤ s
  pub high : s ≤ 20
  pub deep : 1 ≤ d
  pub shallow : d ≤ 8

pub levels : (s d : ℕ) → served s d ≡ true → Levels s d
levels s d e =
    let p = both (leb 10 s) _ e in
    let q = both (leb s 20) _ p.1 in
    let r = both (leb 1 d) _ q.1 in
    record { low = leb-true 10 s p.0; high = leb-true s 20 q.0; deep = leb-true 1 d r.0; shallow = leb-true d 8 r.1 }

-- a region inside
pub within : (s d : ℕ) (beg end : ℤ) → inside s d beg end ≡ true → (natural beg < natural end) × (natural end ≤ 2 ^ (s + 3 * d))
within s d (negsuc b) end e = false_true e
within s d (pos b) (pos f) e =
    let p = both (leb 0 b) _ e in
    let q = both (ltb b f) _ p.1 in
    (ltb-true b f q.0, leb-true f (2 ^ (s + 3 * d)) q.1)
within s d (pos b) (negsuc f) e = let p = both (leb 0 b) _ e in false_true p.1

pub inside_of : (s d beg end : ℕ) → beg < end → end ≤ 2 ^ (s + 3 * d) → inside s d (pos beg) (pos end) ≡ true
inside_of s d beg end h k = simp (le-leb 0 beg (omega arith), lt-ltb beg end h, le-leb end (2 ^ (s + 3 * d)) k)
