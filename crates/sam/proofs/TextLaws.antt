-- The test of a digit tells a digit, and each digit passes it.
use Prim.Native.Nat.{ℕ}
use mathlib.Core.Path.{◌≡◌, refl}
use mathlib.Core.Bool.{Bool, true, false, ◌&&◌}
use lib.Dec.{leb}
use borrow.Author.Tests.{le-leb, leb-true}
use Rattle.lists.proofs.Absurd.{never}
use Rattle.sam.specs.Text.{Digit, is_digit}

pub digit_is : (b : ℕ) → Digit b → is_digit b ≡ true
digit_is b d = rw (le-leb 48 b d.least, le-leb b 57 d.most)

pub a_digit : (b : ℕ) → is_digit b ≡ true → Digit b
a_digit b e = go (leb 48 b) refl (leb b 57) refl e
  where
    go : (t : Bool) → leb 48 b ≡ t → (u : Bool) → leb b 57 ≡ u → (t && u) ≡ true → Digit b
    go true p true q h = record { least = leb-true 48 b p; most = leb-true b 57 q }
    go true p false q h = never (cc)
    go false p u q h = never (cc)
