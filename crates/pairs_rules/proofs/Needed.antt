-- A pair test's answer needs only the fields that document 01 names, and `is_primary_fr_pair_raw` is symmetric: the definitions read nothing else, and the reverse record decides either way.
use mathlib.Core.Path.{◌≡◌, refl, ap, ◌∙◌}
use Rattle.std.specs.Prelude.{Err, Ok}
use mathlib.Core.Bool.{Bool, true, false, cond, xor, ◌&&◌}
use mathlib.Core.List.{List}
use Prim.Native.Nat.{ℕ}
use Rattle.signed.specs.Equal.{eqℤ}
use Rattle.signed.proofs.EqualLaws.{eqℤ_sym}
use Rattle.sam.specs.Record.{ref_id_of, flags_of, template_len_of, is_reverse, is_short}
use Rattle.answers.specs.declared.Refusal.TheVariants.{ShortRecord}
use Rattle.pairs_rules.specs.Needed.{SamePair, SameReverse}
use Rattle.pairs_rules.specs.Pairs.{both_mapped, is_opposite, mate_starts_before, fr_by, is_fr, are_opposite, is_primary_fr, opposite_pair, fr_pair, primary_fr_pair}

pub opposite_needs : (a b : List ℕ) → SamePair a b → is_opposite a ≡ is_opposite b
unfolding is_opposite both_mapped
opposite_needs a b s = rw (s.paired, s.unmapped, s.mate_unmapped, s.reverse, s.mate_reverse, s.reference, s.mate_reference)

module _ (a b : List ℕ) (s : SamePair a b) where
  reverse_needs : SameReverse a b → mate_starts_before a ≡ mate_starts_before b
  unfolding mate_starts_before
  reverse_needs t = rw (t.mate_place, t.place, t.span)

  -- a reverse record needs no template length
  pub fr_needs_reverse : is_reverse (flags_of a) ≡ true → SameReverse a b → is_fr a ≡ is_fr b
  unfolding fr_by
  fr_needs_reverse e t = rw (opposite_needs a b s, ← s.reverse, e, reverse_needs t)

  -- a forward one nothing but the template length
  pub fr_needs_forward : is_reverse (flags_of a) ≡ false → template_len_of a ≡ template_len_of b → is_fr a ≡ is_fr b
  unfolding fr_by
  fr_needs_forward e t = rw (opposite_needs a b s, ← s.reverse, e, t)

-- of two records one is reverse, and it decides
which : (x y m : Bool) (a b : List ℕ) → cond (m && xor x y) (is_fr (cond x a b)) (Ok false) ≡ cond (m && xor y x) (is_fr (cond y b a)) (Ok false)
unfolding xor
which true true true a b = refl
which true true false a b = refl
which true false true a b = refl
which true false false a b = refl
which false true true a b = refl
which false true false a b = refl
which false false true a b = refl
which false false false a b = refl

swap : (x y : Bool) → (x && y) ≡ (y && x)
swap true true = refl
swap true false = refl
swap false true = refl
swap false false = refl

pub primary_symmetric : (a b : List ℕ) → is_primary_fr a b ≡ is_primary_fr b a
unfolding is_primary_fr are_opposite
primary_symmetric a b =
    which (is_reverse (flags_of a)) (is_reverse (flags_of b)) (both_mapped (flags_of a) && both_mapped (flags_of b) && eqℤ (ref_id_of a) (ref_id_of b)) a b
    ∙ ap (λ (m : Bool). cond (m && xor (is_reverse (flags_of b)) (is_reverse (flags_of a))) (is_fr (cond (is_reverse (flags_of b)) b a)) (Ok false))
    (ap (λ (m : Bool). m && eqℤ (ref_id_of a) (ref_id_of b)) (swap (both_mapped (flags_of a)) (both_mapped (flags_of b)))
    ∙ ap (λ (m : Bool). both_mapped (flags_of b) && both_mapped (flags_of a) && m) (eqℤ_sym (ref_id_of a) (ref_id_of b)))

-- ---- the fields that a pair test needs, for two records that are both long enough or both too short

module _ (a b : List ℕ) (l : is_short a ≡ is_short b) (s : SamePair a b) where
  pub opposite_only : opposite_pair a ≡ opposite_pair b
  unfolding opposite_pair
  opposite_only = rw (l, opposite_needs a b s)

  pub reverse_only : is_reverse (flags_of a) ≡ true → SameReverse a b → fr_pair a ≡ fr_pair b
  unfolding fr_pair
  reverse_only r t = rw (l, fr_needs_reverse a b s r t)

  pub forward_only : is_reverse (flags_of a) ≡ false → template_len_of a ≡ template_len_of b → fr_pair a ≡ fr_pair b
  unfolding fr_pair
  forward_only r t = rw (l, fr_needs_forward a b s r t)

pub symmetric : (a b : List ℕ) → primary_fr_pair a b ≡ primary_fr_pair b a
unfolding primary_fr_pair
symmetric a b = go (is_short a) (is_short b)
  where
    go : (t u : Bool) → cond t (Err ShortRecord) (cond u (Err ShortRecord) (is_primary_fr a b))
        ≡ cond u (Err ShortRecord) (cond t (Err ShortRecord) (is_primary_fr b a))
    go true true = refl
    go true false = refl
    go false true = refl
    go false false = primary_symmetric a b
