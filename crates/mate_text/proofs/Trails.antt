-- How the scan for the reference length goes on, from a run x and what was found before a place i on: over a digit, over the letter that ends a piece, at the text's end, and by what a callee does;
-- in each law the scan has come to i from a place `from`, where the run was d.
use mathlib.Core.Path.{◌≡◌, refl, sym, ap, ◌∙◌}
use mathlib.Core.Bool.{Bool, true, false}
use mathlib.Core.List.{List}
use Prim.Native.Nat.{ℕ, ◌+◌, ◌<◌, ◌≤◌}
use native.Mathlib.Omega.{arith}
use lib.IntN.{ℤ, pos}
use lib.Dec.{ltb}
use lib.ListN.{length, drop, get_or}
use borrow.Author.Tests.{ltb-true, ltb-false}
use Rattle.sam.specs.Text.{is_digit}
use Rattle.mate_rules.specs.Run.{counts_as, push_of}
use Rattle.mate_rules.specs.InnerScan.{scan}
use Rattle.mate_rules.proofs.Steps.{push_letter}
use Rattle.mate_rules.proofs.Scans.{scan-digit, scan-letter, scan-end}
use Rattle.mate_text.specs.InnerPiece.{trail_piece, GoesOn}
use Rattle.mate_text.specs.declared.Trail.{Trail}
use Rattle.mate_text.specs.declared.Ahead.{Ahead}

module _ (text : List ℕ) (s : Trail) (d from : ℕ) where
  -- the scan has come to i
  abbrev pub Come : ℕ → ℕ → Type 0
  Come x i = scan trail_piece x s (drop i text) ≡ scan trail_piece d s (drop from text)

  module _ (x i : ℕ) (come : Come x i) where
    module _ (less : i < length text) where
      pub on_digit : (j y : ℕ) → j ≡ i + 1 → is_digit (get_or text i 0) ≡ true → y ≡ push_of x (get_or text i 0) → Come y j
      on_digit j y q k p = ap (λ (m : ℕ). scan trail_piece y s (drop m text)) q ∙ scan-digit trail_piece text i x y s less k p ∙ come

      pub on_letter : (r : Ahead) (z : ℤ) → is_digit (get_or text i 0) ≡ false → z ≡ pos (counts_as x) → r.found ≡ trail_piece s z (get_or text i 0) → r.at ≡ i + 1 → from ≤ i → GoesOn text d s from r
      on_letter r z k c g a h = record {
        left = ap (λ (j : ℕ). scan trail_piece 0 r.found (drop j text)) a
            ∙ scan-letter trail_piece text i x x 0 z s r.found less k (sym (push_letter x (get_or text i 0) k)) c refl g ∙ come;
        onward = omega arith;
        ahead = λ k. omega arith;
        within = omega arith;
      }

    pub at-end : (r : Ahead) → length text ≤ i → r.found ≡ s → r.at ≡ i → from ≤ i → i ≤ length text → GoesOn text d s from r
    at-end r over g a h k = record {
      left = scan-end trail_piece text r.at 0 r.found (omega arith) ∙ g ∙ sym (scan-end trail_piece text i x s over) ∙ come;
      onward = omega arith;
      ahead = λ l. omega arith;
      within = omega arith;
    }

    pub by-rest : (r : Ahead) → GoesOn text x s i r → from ≤ i → GoesOn text d s from r
    by-rest r g h = record { left = g.left ∙ come; onward = omega (arith, g.onward); ahead = λ k. further (ltb i (length text)) refl k; within = g.within }
      where
        further : (t : Bool) → ltb i (length text) ≡ t → from < length text → from < r.at
        further true e k = let m = g.ahead (ltb-true i (length text) e) in omega arith
        further false e k = let m = ltb-false i (length text) e in omega (arith, g.onward)
