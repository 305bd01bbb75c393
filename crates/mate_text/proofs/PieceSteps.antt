-- What a piece does to the scans, case by case: each is the definition at a test's two answers; and a letter's class, which antt computes from its entry for every byte.
use Rattle.std.specs.Prelude.{Option, Some, None}
use mathlib.Core.Path.{◌≡◌, refl, sym, ap, ◌∙◌}
use mathlib.Core.Bool.{Bool, true, false}
use mathlib.Core.List.{List, [], ◌∷◌}
use Prim.Native.Nat.{ℕ, ◌<◌}
use lib.IntN.{ℤ, pos, ◌+ℤ◌}
use Rattle.lists.proofs.Tables.{below_same}
use Rattle.signed.specs.Whole.{clamp32}
use Rattle.sam.specs.Op.{code_of, is_ref, index_of, letter_code}
use Rattle.sam.specs.Text.{is_digit}
use Rattle.ops.specs.Ops.{is_clip}
use Rattle.letters.specs.Letters.{entry_of}
use Rattle.mate_rules.specs.Run.{counts_as}
use Rattle.mate_rules.specs.Pieces.{is_ref_letter, is_clip_letter}
use Rattle.mate_rules.specs.InnerScan.{run_after, found_after, scan}
use Rattle.mate_rules.proofs.Steps.{found_digit, found_letter}
use Rattle.mate_text.specs.InnerPiece.{Lead, with_clip, lead_piece, trail_piece}
use Rattle.mate_text.specs.declared.Trail.{Trail}

-- a letter's class is that of its entry in the table, whose mark is of none
module _ (b : ℕ) (h : b < 256) where
  pub ref_entry : is_ref (code_of (entry_of b)) ≡ is_ref_letter b
  unfolding is_ref_letter is_ref entry_of letter_code index_of
  ref_entry = below_same (λ d. is_ref (code_of (entry_of d))) is_ref_letter 256 b refl h

  pub clip_entry : is_clip (code_of (entry_of b)) ≡ is_clip_letter b
  unfolding is_clip_letter is_clip entry_of letter_code index_of
  clip_entry = below_same (λ d. is_clip (code_of (entry_of d))) is_clip_letter 256 b refl h

  -- and so is what was asked of the code that was read there
  module _ (code : ℕ) (r : Bool) (read : code ≡ entry_of b) where
    pub ref_class : r ≡ is_ref (code_of code) → is_ref_letter b ≡ r
    ref_class e = sym (e ∙ ap (λ (n : ℕ). is_ref (code_of n)) read ∙ ref_entry)

    pub clip_class : r ≡ is_clip (code_of code) → is_clip_letter b ≡ r
    clip_class e = sym (e ∙ ap (λ (n : ℕ). is_clip (code_of n)) read ∙ clip_entry)

module _ (s : Lead) (n : ℤ) (b : ℕ) where
  pub lead_off : s.on ≡ false → lead_piece s n b ≡ s
  unfolding lead_piece
  lead_off e = rw e

  pub lead_stop : s.on ≡ true → is_clip_letter b ≡ false → lead_piece s n b ≡ record { clips = s.clips; on = false }
  unfolding lead_piece
  lead_stop e f = rw (e, f)

  pub lead_clip : s.on ≡ true → is_clip_letter b ≡ true → lead_piece s n b ≡ record { clips = clamp32 (s.clips +ℤ n); on = true }
  unfolding lead_piece
  lead_clip e f = rw (e, f)

module _ (s : Trail) (n : ℤ) (b : ℕ) where
  pub trail_ref : is_ref_letter b ≡ true → trail_piece s n b ≡ record { refs = clamp32 (s.refs +ℤ n); clips = Some (pos 0) }
  unfolding trail_piece
  trail_ref e = rw e

  pub trail_other : is_ref_letter b ≡ false → is_clip_letter b ≡ false → trail_piece s n b ≡ s
  unfolding trail_piece
  trail_other e f = rw (e, f)

  pub trail_early : is_ref_letter b ≡ false → is_clip_letter b ≡ true → s.clips ≡ None → trail_piece s n b ≡ s
  unfolding trail_piece
  trail_early e f g = rw (e, f) (ap (λ (x : Option ℤ). record { refs = s.refs; clips = with_clip x n }) g ∙ ap (λ (x : Option ℤ). record { refs = s.refs; clips = x }) (sym g))

  pub trail_clip : (c : ℤ) → is_ref_letter b ≡ false → is_clip_letter b ≡ true → s.clips ≡ Some c → trail_piece s n b ≡ record { refs = s.refs; clips = Some (clamp32 (c +ℤ n)) }
  unfolding trail_piece
  trail_clip c e f g = rw (e, f) (ap (λ (x : Option ℤ). record { refs = s.refs; clips = with_clip x n }) g)

-- once another letter than a clip was met, nothing more is found
found_off : (x : ℕ) (s : Lead) (b : ℕ) → s.on ≡ false → found_after lead_piece x s b ≡ s
found_off x s b e = go (is_digit b) refl
  where
    go : (u : Bool) → is_digit b ≡ u → found_after lead_piece x s b ≡ s
    go true q = found_digit lead_piece x s b q
    go false q = found_letter lead_piece x s b q ∙ lead_off s (pos (counts_as x)) b e

pub scan_off : (t : List ℕ) (x : ℕ) (s : Lead) → s.on ≡ false → scan lead_piece x s t ≡ s
unfolding scan
scan_off [] x s e = refl
scan_off (b ∷ t) x s e = ap (λ (r : Lead). scan lead_piece (run_after x b) r t) (found_off x s b e) ∙ scan_off t (run_after x b) s e
