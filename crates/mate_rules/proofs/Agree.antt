-- Two readers of one format agree: on a text that spells an op list, the pieces are the ops, one by one, with the same class and the same number.
use mathlib.Core.Path.{◌≡◌, refl, sym, ap, ◌∙◌}
use mathlib.Core.Bool.{Bool, true, false, cond}
use mathlib.Core.List.{List, [], ◌∷◌}
use Prim.Native.Nat.{ℕ, ◌<◌}
use native.Mathlib.Omega.{arith}
use lib.ListN.{get_or}
use Rattle.lists.specs.Lists.{sum_of}
use Rattle.lists.specs.Runs.{leading, holds, after_last}
use Rattle.sam.specs.Op.{len_of, code_of, op_of, letters, is_ref, ref_len}
use Rattle.sam.specs.Text.{value, Spells, end, op}
use Rattle.sam.proofs.LetterLaws.{letter-code, letter_digit}
use Rattle.ops.specs.Ops.{is_clip}
use Rattle.clip_run_rules.specs.Clips.{clip_len, leading_clips, clips_after_reference}
use Rattle.mate_rules.specs.Pieces.{is_ref_letter, is_clip_letter, Piece, pieces, counts, total, is_ref_piece, is_clip_piece, ref_count, clip_count, mate_leading, mate_reference, mate_trailing}
use Rattle.mate_rules.specs.Readers.{Short, Agree}
use Rattle.mate_rules.proofs.Digits.{count_small}
use Rattle.mate_rules.proofs.Scans.{first_piece}

-- ---- the letters are the specification's

module _ (c : ℕ) (h : c < 9) where
  pub ref_letter : is_ref_letter (get_or letters c 0) ≡ is_ref c
  unfolding is_ref_letter
  ref_letter = ap is_ref (letter-code c h)

  pub clip_letter : is_clip_letter (get_or letters c 0) ≡ is_clip c
  unfolding is_clip_letter
  clip_letter = ap is_clip (letter-code c h)

-- ---- pieces that are ops

data Match : List Piece → List ℕ → Type 0 where
  none : Match [] []
  more : (p : Piece) (o : ℕ) {ps : List Piece} {os : List ℕ} → counts p ≡ len_of o → is_ref_piece p ≡ is_ref (code_of o) → is_clip_piece p ≡ is_clip (code_of o)
      → Match ps os → Match (p ∷ ps) (o ∷ os)

spelt : {s ops : List ℕ} → Spells s ops → Short ops → Match (pieces s) ops
unfolding pieces
spelt end k = none
spelt (op d ds c {s} g h r) k =
    let n : ℕ = value 0 (d ∷ ds) in
    let l : len_of (op_of n c) ≡ n = omega arith in
    let m : code_of (op_of n c) ≡ c = omega arith in
    rw (first_piece (d ∷ ds) (get_or letters c 0) s g (letter_digit c h))
    (more (record { digits = d ∷ ds; letter = get_or letters c 0 }) (op_of n c)
    (count_small n (omega (arith, k.0)) ∙ sym l) (ref_letter c h ∙ ap is_ref (sym m)) (clip_letter c h ∙ ap is_clip (sym m)) (spelt r k.1))

-- ---- sums over the two

total_sum : (f : Piece → ℕ) (g : ℕ → ℕ) → ((p : Piece) (o : ℕ) → counts p ≡ len_of o → is_ref_piece p ≡ is_ref (code_of o) → is_clip_piece p ≡ is_clip (code_of o) → f p ≡ g o)
    → {ps : List Piece} {os : List ℕ} → Match ps os → total f ps ≡ sum_of g os
unfolding total sum_of
total_sum f g k none = refl
total_sum f g k (more p o n r c m) = let e = k p o n r c in let q = total_sum f g k m in omega arith

-- ---- the parts of the two

match_leading : {ps : List Piece} {os : List ℕ} → Match ps os → Match (leading is_clip_piece ps) (leading (λ o. is_clip (code_of o)) os)
unfolding leading
match_leading none = none
match_leading (more p o {ps} {os} n r c m) = rw c (go (is_clip (code_of o)) (match_leading m))
  where
    go : (t : Bool) → Match (leading is_clip_piece ps) (leading (λ o. is_clip (code_of o)) os)
        → Match (cond t (p ∷ leading is_clip_piece ps) []) (cond t (o ∷ leading (λ o. is_clip (code_of o)) os) [])
    go true i = more p o n r c i
    go false i = none

match_holds : {ps : List Piece} {os : List ℕ} → Match ps os → holds is_ref_piece ps ≡ holds (λ o. is_ref (code_of o)) os
unfolding holds
match_holds none = refl
match_holds (more p o {ps} {os} n r c m) = rw (r, match_holds m)

match_after : {ps : List Piece} {os : List ℕ} → Match ps os → Match (after_last is_ref_piece ps) (after_last (λ o. is_ref (code_of o)) os)
unfolding after_last
match_after none = none
match_after (more p o {ps} {os} n r c m) = rw (r, match_holds m) (go (holds (λ o. is_ref (code_of o)) os) (is_ref (code_of o)) m (match_after m))
  where
    go : (t u : Bool) → Match ps os → Match (after_last is_ref_piece ps) (after_last (λ o. is_ref (code_of o)) os)
        → Match (cond t (after_last is_ref_piece ps) (cond u ps [])) (cond t (after_last (λ o. is_ref (code_of o)) os) (cond u os []))
    go true u m i = i
    go false true m i = m
    go false false m i = none

-- THE LAW of the two readers
pub readers_agree : {s ops : List ℕ} → Spells s ops → Short ops → Agree s ops
unfolding mate_leading mate_reference mate_trailing leading_clips clips_after_reference ref_len clip_len
readers_agree r k =
    let m = spelt r k in record {
      leading = total_sum counts len_of (λ p o n r c. n) (match_leading m);
      reference = total_sum ref_count ref_len (λ p o n r c. rw (r, n)) m;
      trailing = total_sum clip_count clip_len (λ p o n r c. rw (c, n)) (match_after m);
    }
