-- Which pairs are just FR, and which are just not: by the tests at their limits.
use Rattle.answers.specs.Answer.{Answer}
use Prim.Native.Nat.{ℕ}
use Rattle.std.specs.Prelude.{Err, Ok}
use mathlib.Core.Path.{◌≡◌, refl, ap}
use mathlib.Core.Bool.{Bool, true, false, cond}
use mathlib.Core.List.{List}
use native.Mathlib.Omega.{arith}
use lib.IntN.{ℤ, pos}
use lib.Signed.{le_z}
use Rattle.signed.proofs.Halves.{leℤ}
use Rattle.sam.specs.Record.{pos_of, flags_of, mate_pos_of, template_len_of, is_reverse, is_short}
use Rattle.answers.specs.declared.Refusal.{Refusal}
use Rattle.length_rules.specs.Lengths.{checked_ref_length}
use Rattle.pairs_rules.specs.Pairs.{is_opposite, start_of, last_of, starts_before_end, mate_starts_before, fr_by, are_opposite, is_primary_fr, fr_pair, primary_fr_pair}

starts_at_end : (s p n : ℤ) → start_of s ≡ last_of p n → starts_before_end s p (Ok n) ≡ Ok true
starts_at_end s p n e = simp e (ap Ok (leℤ (last_of p n) (last_of p n) (omega arith)))

module _ (b : List ℕ) (l : is_short b ≡ false) where
  -- "if mate start ≤ own end": a mate that starts at a reverse record's last base
  pub fr_at_end : (n : ℤ) → is_opposite b ≡ true → is_reverse (flags_of b) ≡ true → checked_ref_length b ≡ Ok n → start_of (mate_pos_of b) ≡ last_of (pos_of b) n
      → fr_pair b ≡ Ok true
  unfolding fr_pair fr_by mate_starts_before
  fr_at_end n o r k e = simp (l, o, r, k) (starts_at_end (mate_pos_of b) (pos_of b) n e)

  -- "if template length is at least 1": a forward record without one, which the SAM specification writes as 0
  pub no_template : is_reverse (flags_of b) ≡ false → template_len_of b ≡ pos 0 → fr_pair b ≡ Ok false
  unfolding fr_pair fr_by
  no_template r t = simp (l, r, t) (go (is_opposite b))
    where
      go : (o : Bool) → cond {A = Answer Bool} o (Ok (le_z (pos 1) (pos 0))) (Ok false) ≡ Ok false
      go true = refl
      go false = refl

  -- "a pair whose flags already fail still answers no", also where the record is damaged
  pub flags_first : is_opposite b ≡ false → fr_pair b ≡ Ok false
  unfolding fr_pair fr_by
  flags_first o = simp (l, o)

  -- a reverse record whose length is refused passes no pair test
  pub no_length : (r : Refusal) → is_opposite b ≡ true → is_reverse (flags_of b) ≡ true → checked_ref_length b ≡ Err r → fr_pair b ≡ Err r
  unfolding fr_pair fr_by mate_starts_before
  no_length r o t e = simp (l, o, t, e)

-- the same of two records
pub both_flags_first : (a b : List ℕ) → is_short a ≡ false → is_short b ≡ false → are_opposite a b ≡ false → primary_fr_pair a b ≡ Ok false
unfolding primary_fr_pair is_primary_fr
both_flags_first a b l m o = simp (l, m, o)
