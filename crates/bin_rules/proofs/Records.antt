-- The cases of `record_bin`.
use Prim.Native.Nat.{ℕ, ◌≤◌}
use Rattle.std.specs.Prelude.{Err, Ok}
use mathlib.Core.Path.{◌≡◌, ◌∙◌}
use mathlib.Core.Bool.{true, false}
use mathlib.Core.List.{List}
use borrow.Author.Tests.{le-ltb}
use lib.ListN.{length}
use lib.IntN.{pos}
use lib.Signed.{lt_z}
use Rattle.sam.specs.Record.{pos_of}
use Rattle.answers.specs.Settled.{keeps}
use Rattle.answers.specs.declared.Refusal.{Refusal}
use Rattle.length_rules.specs.Lengths.{checked_ref_length}
use Rattle.bin_rules.specs.Bin.{record_bin, bin_from, set_bin}

module _ (b : List ℕ) (h : 32 ≤ length b) where
  pub before_first : lt_z (pos_of b) (pos 0) ≡ true → record_bin b ≡ Ok 4680
  unfolding record_bin
  before_first t = simp (le-ltb (length b) 32 h, t)

  pub from_first : lt_z (pos_of b) (pos 0) ≡ false → record_bin b ≡ bin_from (pos_of b) (checked_ref_length b)
  unfolding record_bin
  from_first t = simp (le-ltb (length b) 32 h, t)

  -- a record whose length is refused has no bin
  pub no_length : (r : Refusal) → lt_z (pos_of b) (pos 0) ≡ false → checked_ref_length b ≡ Err r → record_bin b ≡ Err r
  unfolding bin_from
  no_length r t e = from_first t ∙ rw e

-- and its record is left as it was
pub not_written : (b : List ℕ) (r : Refusal) → record_bin b ≡ Err r → set_bin b ≡ keeps (Err r) b
unfolding set_bin
not_written b r e = rw e
