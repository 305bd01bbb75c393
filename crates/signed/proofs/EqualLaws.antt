-- Two numbers of an i32 are equal where their bits are; the test is symmetric.
use Rattle.std.proofs.Common.{◌≡◌, ℕ, suc, ◌-◌, Bool, true, false, eqb, ℤ, pos, negsuc, sym, refl, arith, w32, SFits, of_z, eq-eqb, ne_eqb, eqb-true}
use borrow.Author.Tests.{eqb-false}
use Rattle.signed.specs.Equal.{eqℤ}

same_eqb : (x y a b : ℕ) → (a ≡ b → x ≡ y) → (x ≡ y → a ≡ b) → (t : Bool) → eqb a b ≡ t → eqb x y ≡ t
same_eqb x y a b f g true e = eq-eqb x y (f (eqb-true a b e))
same_eqb x y a b f g false e = ne_eqb x y (λ q. eqb-false a b e (g q))

pub bits_eq : (a b : ℤ) → SFits w32 a → SFits w32 b → eqb (of_z w32 a) (of_z w32 b) ≡ eqℤ a b
unfolding eqℤ
bits_eq (pos a) (pos b) f g = refl
bits_eq (pos a) (negsuc b) f g = ne_eqb a (4294967296 - suc b) (λ e. omega (arith, f.sfits, g.sfits))
bits_eq (negsuc a) (pos b) f g = ne_eqb (4294967296 - suc a) b (λ e. omega (arith, f.sfits, g.sfits))
bits_eq (negsuc a) (negsuc b) f g =
    same_eqb (4294967296 - suc a) (4294967296 - suc b) a b (λ e. omega arith) (λ e. omega (arith, f.sfits, g.sfits)) (eqb a b) refl

pub eqℤ_sym : (a b : ℤ) → eqℤ a b ≡ eqℤ b a
unfolding eqℤ
eqℤ_sym (pos a) (pos b) = same_eqb a b b a (λ e. sym e) (λ e. sym e) (eqb b a) refl
eqℤ_sym (pos a) (negsuc b) = refl
eqℤ_sym (negsuc a) (pos b) = refl
eqℤ_sym (negsuc a) (negsuc b) = same_eqb a b b a (λ e. sym e) (λ e. sym e) (eqb b a) refl
