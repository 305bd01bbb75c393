-- The test of a capital letter tells one, and each passes it; an example of the specification.
use Prim.Native.Nat.{ℕ}
use mathlib.Core.Path.{◌≡◌, refl}
use mathlib.Core.Bool.{Bool, true, false, ◌&&◌}
use mathlib.Core.List.{[], ◌∷◌}
use native.Mathlib.Omega.{arith}
use lib.Dec.{leb}
use borrow.Author.Tests.{le-leb, leb-true}
use Rattle.lists.proofs.Absurd.{never}
use Rattle.sam.specs.Text.{value}
use Rattle.sam.specs.Md.{Capital, is_capital, SpellsMd, SpellsMd.number, SpellsMd.letter, SpellsMd.caret, md_columns}

pub is-capital : (b : ℕ) → Capital b → is_capital b ≡ true
is-capital b d = rw (le-leb 65 b d.least, le-leb b 90 d.most)

pub a_capital : (b : ℕ) → is_capital b ≡ true → Capital b
a_capital b e = go (leb 65 b) refl (leb b 90) refl e
  where
    go : (t : Bool) → leb 65 b ≡ t → (u : Bool) → leb b 90 ≡ u → (t && u) ≡ true → Capital b
    go true p true q h = record { least = leb-true 65 b p; most = leb-true b 90 q }
    go true p false q h = never (cc)
    go false p u q h = never (cc)

-- `2A0^CG1`: two matches, a mismatch, two reference bases that the read lacks, a match; which 2= 1X 2D 0D 1= spells
pub worked : SpellsMd (50 ∷ 65 ∷ 48 ∷ 94 ∷ 67 ∷ 71 ∷ 49 ∷ []) (md_columns (39 ∷ 24 ∷ 34 ∷ 2 ∷ 23 ∷ []))
unfolding value md_columns
worked =
    letter 50 [] 65 (record { least = omega arith; most = omega arith }, tt) (record { least = omega arith; most = omega arith })
    (caret 48 [] 67 (71 ∷ []) (record { least = omega arith; most = omega arith }, tt) (record { least = omega arith; most = omega arith }, (record { least = omega arith; most = omega arith }, tt))
    (number 49 [] (record { least = omega arith; most = omega arith }, tt)))
