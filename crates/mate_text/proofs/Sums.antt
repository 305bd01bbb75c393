-- What the walks over pieces find is what the definitions sum: saturating step by step is saturating once, as no count is negative.
use Rattle.std.specs.Prelude.{Some, None, unwrap_or}
use mathlib.Core.Path.{◌≡◌, refl, sym, ap, ◌∙◌}
use mathlib.Core.Bool.{Bool, true, false, cond}
use mathlib.Core.List.{List, [], ◌∷◌}
use Prim.Native.Nat.{ℕ, ◌+◌, ◌≤◌}
use native.Mathlib.Omega.{arith}
use lib.IntN.{ℤ, pos, ◌+ℤ◌}
use lib.Dec.{ltb}
use borrow.Author.Tests.{ltb-true, ltb-false}
use Rattle.lists.specs.Runs.{leading, holds, after_last}
use Rattle.lists.proofs.RunLaws.{after_none}
use Rattle.signed.specs.Whole.{clamp32}
use Rattle.signed.proofs.Ranges.{clamp_in, clamp_above}
use Rattle.mate_rules.specs.Pieces.{Piece, pieces, counts, total, is_ref_piece, is_clip_piece, ref_count, clip_count, mate_leading, mate_reference, mate_trailing, capped}
use Rattle.mate_text.specs.InnerPiece.{Lead, lead_piece, trail_piece}
use Rattle.mate_text.specs.declared.Trail.{Trail}
use Rattle.mate_text.proofs.PieceSteps.{lead_off, lead_stop, lead_clip, trail_ref, trail_other, trail_early, trail_clip}
use Rattle.mate_rules.specs.InnerScan.{scan}
use Rattle.mate_rules.proofs.Scans.{overPieces, scan_is}

-- ---- one step that saturates

held_top : (n : ℕ) → 2147483647 ≤ n → capped n ≡ pos 2147483647
held_top n h = go (ltb n 2147483648) refl
  where
    go : (t : Bool) → ltb n 2147483648 ≡ t → capped n ≡ pos 2147483647
    go true q = let k = ltb-true n 2147483648 q in let e : n ≡ 2147483647 = omega arith in clamp_in (pos n) (omega arith) (omega arith) ∙ ap pos e
    go false q = let k = ltb-false n 2147483648 q in clamp_above (pos n) (omega arith)

pub held_add : (c k : ℕ) → clamp32 (capped c +ℤ pos k) ≡ capped (c + k)
held_add c k = go (ltb c 2147483648) refl
  where
    go : (t : Bool) → ltb c 2147483648 ≡ t → clamp32 (capped c +ℤ pos k) ≡ capped (c + k)
    go true q = let h = ltb-true c 2147483648 q in ap (λ (z : ℤ). clamp32 (z +ℤ pos k)) (clamp_in (pos c) (omega arith) (omega arith))
    go false q =
        let h = ltb-false c 2147483648 q in
        ap (λ (z : ℤ). clamp32 (z +ℤ pos k)) (clamp_above (pos c) (omega arith))
        ∙ held_top (2147483647 + k) (omega arith) ∙ sym (held_top (c + k) (omega arith))

-- ---- the leading clips

lead_stays : (ps : List Piece) (z : ℤ) → overPieces lead_piece (record { clips = z; on = false }) ps ≡ record { clips = z; on = false }
unfolding overPieces
lead_stays [] z = refl
lead_stays (p ∷ ps) z =
    ap (λ (s : Lead). overPieces lead_piece s ps) (lead_off (record { clips = z; on = false }) (pos (counts p)) p.letter refl) ∙ lead_stays ps z

lead_sum : (ps : List Piece) (c : ℕ) → (overPieces lead_piece (record { clips = capped c; on = true }) ps).clips ≡ capped (c + total counts (leading is_clip_piece ps))
unfolding overPieces leading total
lead_sum [] c = ap capped (omega arith)
lead_sum (p ∷ ps) c = go (is_clip_piece p) refl (lead_sum ps)
  where
    go : (t : Bool) → is_clip_piece p ≡ t → ((d : ℕ) → (overPieces lead_piece (record { clips = capped d; on = true }) ps).clips ≡ capped (d + total counts (leading is_clip_piece ps)))
        → (overPieces lead_piece (lead_piece (record { clips = capped c; on = true }) (pos (counts p)) p.letter) ps).clips
        ≡ capped (c + total counts (cond t (p ∷ leading is_clip_piece ps) []))
    go true e ih =
        ap (λ (s : Lead). (overPieces lead_piece s ps).clips)
        (lead_clip (record { clips = capped c; on = true }) (pos (counts p)) p.letter refl e ∙ ap (λ (z : ℤ). record { clips = z; on = true }) (held_add c (counts p)))
        ∙ ih (c + counts p) ∙ ap capped (omega arith)
    go false e ih =
        ap (λ (s : Lead). (overPieces lead_piece s ps).clips) (lead_stop (record { clips = capped c; on = true }) (pos (counts p)) p.letter refl e)
        ∙ ap (λ (s : Lead). s.clips) (lead_stays ps (capped c)) ∙ ap capped (omega arith)

pub leading_is : (text : List ℕ) → (scan lead_piece 0 (record { clips = pos 0; on = true }) text).clips ≡ capped (mate_leading text)
unfolding mate_leading
leading_is text =
    ap (λ (s : Lead). s.clips) (scan_is lead_piece (record { clips = pos 0; on = true }) text)
    ∙ ap (λ (z : ℤ). (overPieces lead_piece (record { clips = z; on = true }) (pieces text)).clips) (sym (clamp_in (pos 0) (omega arith) (omega arith)))
    ∙ lead_sum (pieces text) 0 ∙ ap capped (omega arith)

-- ---- the reference length, and the clips after its last letter

abbrev tail : ℕ → ℕ → Bool → Trail
tail r c seen = record { refs = capped r; clips = cond seen (Some (capped c)) None }

-- the clips that a walk has at the end, from those before: a reference letter among the pieces leaves only those after the last
abbrev trailing : ℕ → Bool → List Piece → ℕ
trailing c seen ps = cond (holds is_ref_piece ps) (total clip_count (after_last is_ref_piece ps)) (cond seen (c + total clip_count ps) 0)

-- what is to be shown of a walk
abbrev Ends : ℕ → ℕ → Bool → List Piece → Trail → Type 0
Ends r c seen ps t = (t.refs ≡ capped (r + total ref_count ps)) × (unwrap_or t.clips (pos 0) ≡ capped (trailing c seen ps))

module _ (p : Piece) (ps : List Piece) where
  trailing_ref : (c : ℕ) (seen : Bool) → is_ref_piece p ≡ true → trailing 0 true ps ≡ trailing c seen (p ∷ ps)
  unfolding holds after_last
  trailing_ref c seen e = rw e (go (holds is_ref_piece ps))
    where
      go : (t : Bool) → cond t (total clip_count (after_last is_ref_piece ps)) (0 + total clip_count ps) ≡ total clip_count (cond t (after_last is_ref_piece ps) ps)
      go true = refl
      go false = omega arith

  trailing_other : (c d : ℕ) (seen : Bool) → is_ref_piece p ≡ false → cond seen (d + total clip_count ps) 0 ≡ cond seen (c + total clip_count (p ∷ ps)) 0 → trailing d seen ps ≡ trailing c seen (p ∷ ps)
  unfolding holds after_last
  trailing_other c d seen e h = rw e (go (holds is_ref_piece ps))
    where
      go : (t : Bool) → cond t (total clip_count (after_last is_ref_piece ps)) (cond seen (d + total clip_count ps) 0)
          ≡ cond t (total clip_count (cond t (after_last is_ref_piece ps) [])) (cond seen (c + total clip_count (p ∷ ps)) 0)
      go true = refl
      go false = h

  ends_next : (r c r₁ c₁ : ℕ) (seen seen₁ : Bool) (t : Trail) → Ends r₁ c₁ seen₁ ps (overPieces trail_piece (tail r₁ c₁ seen₁) ps) → t ≡ tail r₁ c₁ seen₁
      → r₁ + total ref_count ps ≡ r + total ref_count (p ∷ ps) → trailing c₁ seen₁ ps ≡ trailing c seen (p ∷ ps)
      → Ends r c seen (p ∷ ps) (overPieces trail_piece t ps)
  ends_next r c r₁ c₁ seen seen₁ t ih e f g =
      (ap (λ (u : Trail). (overPieces trail_piece u ps).refs) e ∙ ih.0 ∙ ap capped f, ap (λ (u : Trail). unwrap_or (overPieces trail_piece u ps).clips (pos 0)) e ∙ ih.1 ∙ ap capped g)

held_none : pos 0 ≡ capped 0
held_none = sym (clamp_in (pos 0) (omega arith) (omega arith))

trail_sum : (ps : List Piece) (r c : ℕ) (seen : Bool) → Ends r c seen ps (overPieces trail_piece (tail r c seen) ps)
unfolding overPieces total holds after_last
trail_sum [] r c true = (ap capped (omega arith), ap capped (omega arith))
trail_sum [] r c false = (ap capped (omega arith), held_none)
trail_sum (p ∷ ps) r c seen = go (is_ref_piece p) refl (is_clip_piece p) refl seen (trail_sum ps)
  where
    go : (t : Bool) → is_ref_piece p ≡ t → (u : Bool) → is_clip_piece p ≡ u → (v : Bool)
        → ((r c : ℕ) (seen : Bool) → Ends r c seen ps (overPieces trail_piece (tail r c seen) ps))
        → Ends r c v (p ∷ ps) (overPieces trail_piece (trail_piece (tail r c v) (pos (counts p)) p.letter) ps)
    go true e u f v ih =
        let n : ref_count p ≡ counts p = rw e in
        ends_next p ps r c (r + counts p) 0 v true _ (ih (r + counts p) 0 true)
        (trail_ref (tail r c v) (pos (counts p)) p.letter e
        ∙ ap (λ (z : ℤ). record { refs = z; clips = Some (pos 0) }) (held_add r (counts p))
        ∙ ap (λ (z : ℤ). record { refs = capped (r + counts p); clips = Some z }) held_none)
        (omega arith) (trailing_ref p ps c v e)
    go false e false f v ih =
        let n : ref_count p ≡ 0 = rw e in
        let m : clip_count p ≡ 0 = rw f in
        let q : total clip_count ps ≡ total clip_count (p ∷ ps) = omega arith in
        ends_next p ps r c r c v v _ (ih r c v) (trail_other (tail r c v) (pos (counts p)) p.letter e f) (omega arith)
        (trailing_other p ps c c v e (ap (λ (x : ℕ). cond v (c + x) 0) q))
    go false e true f false ih =
        let n : ref_count p ≡ 0 = rw e in
        ends_next p ps r c r c false false _ (ih r c false) (trail_early (tail r c false) (pos (counts p)) p.letter e f refl) (omega arith)
        (trailing_other p ps c c false e refl)
    go false e true f true ih =
        let n : ref_count p ≡ 0 = rw e in
        let m : clip_count p ≡ counts p = rw f in
        ends_next p ps r c r (c + counts p) true true _ (ih r (c + counts p) true)
        (trail_clip (tail r c true) (pos (counts p)) p.letter (capped c) e f refl
        ∙ ap (λ (z : ℤ). record { refs = capped r; clips = Some z }) (held_add c (counts p)))
        (omega arith) (trailing_other p ps c (c + counts p) true e (omega arith))

trailing_first : (ps : List Piece) → trailing 0 false ps ≡ total clip_count (after_last is_ref_piece ps)
unfolding total
trailing_first ps = go (holds is_ref_piece ps) refl
  where
    go : (t : Bool) → holds is_ref_piece ps ≡ t → cond t (total clip_count (after_last is_ref_piece ps)) 0 ≡ total clip_count (after_last is_ref_piece ps)
    go true e = refl
    go false e = sym (ap (total clip_count) (after_none is_ref_piece ps e))

module _ (text : List ℕ) where
  abbrev found : Trail
  found = scan trail_piece 0 (record { refs = pos 0; clips = None }) text

  found-is : found ≡ overPieces trail_piece (tail 0 0 false) (pieces text)
  found-is =
      scan_is trail_piece (record { refs = pos 0; clips = None }) text
      ∙ ap (λ (z : ℤ). overPieces trail_piece (record { refs = z; clips = None }) (pieces text)) held_none

  pub reference_is : found.refs ≡ capped (mate_reference text)
  unfolding mate_reference
  reference_is = ap (λ (t : Trail). t.refs) found-is ∙ (trail_sum (pieces text) 0 0 false).0 ∙ ap capped (omega arith)

  pub trailing_is : unwrap_or found.clips (pos 0) ≡ capped (mate_trailing text)
  unfolding mate_trailing
  trailing_is = ap (λ (t : Trail). unwrap_or t.clips (pos 0)) found-is ∙ (trail_sum (pieces text) 0 0 false).1 ∙ ap capped (trailing_first (pieces text))
