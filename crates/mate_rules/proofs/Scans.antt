-- The scan of the bytes is a walk over the text's pieces: digits gather in the run, and the byte after them ends the piece that they are the digits of.
use mathlib.Core.Path.{◌≡◌, refl, sym, ap, ◌∙◌}
use mathlib.Core.Bool.{Bool, true, false}
use mathlib.Core.List.{List, [], ◌∷◌, ◌++◌, append_assoc, append-nil}
use Prim.Native.Nat.{ℕ, ◌+◌, ◌<◌, ◌≤◌}
use lib.IntN.{ℤ, pos}
use lib.ListN.{length, drop, get_or}
use Rattle.lists.proofs.Walks.{step, done}
use Rattle.sam.specs.Text.{Digits, value, is_digit}
use Rattle.sam.proofs.TextLaws.{digit_is, a_digit}
use Rattle.mate_rules.specs.Run.{counts_as, push_of}
use Rattle.mate_rules.specs.Pieces.{Piece, pieces, with_digit, counts}
use Rattle.mate_rules.specs.InnerScan.{run_after, found_after, scan}
use Rattle.mate_rules.proofs.Digits.{run_of, run_snoc, digits_snoc, run_counts}
use Rattle.mate_rules.proofs.Steps.{run_digit, run_letter, push_letter, found_digit, found_letter}

-- ---- pieces of a text that begins with digits

pub no_piece : (ds : List ℕ) → Digits ds → pieces ds ≡ []
unfolding pieces
no_piece [] k = refl
no_piece (d ∷ ds) k = rw (digit_is d k.0) (ap (with_digit d) (no_piece ds k.1))

pub first_piece : (ds : List ℕ) (b : ℕ) (t : List ℕ) → Digits ds → is_digit b ≡ false → pieces (ds ++ (b ∷ t)) ≡ record { digits = ds; letter = b } ∷ pieces t
unfolding pieces
first_piece [] b t k e = rw e
first_piece (d ∷ ds) b t k e = rw (digit_is d k.0) (ap (with_digit d) (first_piece ds b t k.1 e))

-- ---- the scan

module _ {S : Type 0} (f : S → ℤ → ℕ → S) where
  unfoldable pub overPieces : S → List Piece → S
  overPieces s [] = s
  overPieces s (p ∷ ps) = overPieces (f s (pos (counts p)) p.letter) ps

  scan_pieces : (t ds : List ℕ) (s : S) → Digits ds → scan f (run_of 0 ds) s t ≡ overPieces s (pieces (ds ++ t))
  unfolding scan overPieces
  scan_pieces [] ds s k = sym (ap (overPieces s) (ap pieces (append-nil ds) ∙ no_piece ds k))
  scan_pieces (b ∷ t) ds s k = go (is_digit b) refl (scan_pieces t)
    where
      go : (u : Bool) → is_digit b ≡ u → ((es : List ℕ) (r : S) → Digits es → scan f (run_of 0 es) r t ≡ overPieces r (pieces (es ++ t)))
          → scan f (run_after (run_of 0 ds) b) (found_after f (run_of 0 ds) s b) t ≡ overPieces s (pieces (ds ++ (b ∷ t)))
      go true e ih =
          ap (λ (x : ℕ). scan f x (found_after f (run_of 0 ds) s b) t) (run_digit (run_of 0 ds) b e ∙ sym (run_snoc 0 ds b))
          ∙ ap (λ (r : S). scan f (run_of 0 (ds ++ (b ∷ []))) r t) (found_digit f (run_of 0 ds) s b e)
          ∙ ih (ds ++ (b ∷ [])) s (digits_snoc ds b k (a_digit b e))
          ∙ ap (λ (l : List ℕ). overPieces s (pieces l)) (append_assoc ds (b ∷ []) t)
      go false e ih =
          ap (λ (x : ℕ). scan f x (found_after f (run_of 0 ds) s b) t) (run_letter (run_of 0 ds) b e)
          ∙ ap (λ (r : S). scan f 0 r t) (found_letter f (run_of 0 ds) s b e ∙ ap (λ (n : ℕ). f s (pos n) b) (run_counts ds k))
          ∙ ih [] (f s (pos (counts_as (value 0 ds))) b) tt
          ∙ sym (ap (overPieces s) (first_piece ds b t k e))

  -- THE LAW of the scan
  pub scan_is : (s : S) (t : List ℕ) → scan f 0 s t ≡ overPieces s (pieces t)
  scan_is s t = scan_pieces t [] s tt

  -- a turn of its loop, at a digit, which `push` took, and at a letter, after which `take` emptied the run
  pub scan-digit : (text : List ℕ) (i x y : ℕ) (s : S) → i < length text → is_digit (get_or text i 0) ≡ true → y ≡ push_of x (get_or text i 0) → scan f y s (drop (i + 1) text) ≡ scan f x s (drop i text)
  unfolding scan
  scan-digit text i x y s h e p =
      ap (λ (z : ℕ). scan f z s (drop (i + 1) text)) (p ∙ sym (run_digit x (get_or text i 0) e))
      ∙ ap (λ (r : S). scan f (run_after x (get_or text i 0)) r (drop (i + 1) text)) (sym (found_digit f x s (get_or text i 0) e))
      ∙ sym (ap (scan f x s) (step text i (get_or text i 0) refl h))

  pub scan-letter : (text : List ℕ) (i x y z : ℕ) (n : ℤ) (s r : S) → i < length text → is_digit (get_or text i 0) ≡ false → y ≡ push_of x (get_or text i 0)
      → n ≡ pos (counts_as y) → z ≡ 0 → r ≡ f s n (get_or text i 0) → scan f z r (drop (i + 1) text) ≡ scan f x s (drop i text)
  unfolding scan
  scan-letter text i x y z n s r h e p c o g =
      ap (λ (w : ℕ). scan f w r (drop (i + 1) text)) (o ∙ sym (run_letter x (get_or text i 0) e))
      ∙ ap (λ (q : S). scan f (run_after x (get_or text i 0)) q (drop (i + 1) text))
      (g ∙ ap (λ (m : ℤ). f s m (get_or text i 0)) (c ∙ ap (λ (w : ℕ). pos (counts_as w)) (p ∙ push_letter x (get_or text i 0) e)) ∙ sym (found_letter f x s (get_or text i 0) e))
      ∙ sym (ap (scan f x s) (step text i (get_or text i 0) refl h))

  pub scan-end : (text : List ℕ) (i x : ℕ) (s : S) → length text ≤ i → scan f x s (drop i text) ≡ s
  unfolding scan
  scan-end text i x s h = ap (scan f x s) (done text i h)
