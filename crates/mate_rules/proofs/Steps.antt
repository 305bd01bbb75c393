-- What a byte does to the scans, case by case: each is the definition at a test's two answers.
use mathlib.Core.Path.{◌≡◌}
use mathlib.Core.Bool.{true, false}
use Prim.Native.Nat.{ℕ}
use lib.IntN.{ℤ, pos}
use Rattle.sam.specs.Text.{is_digit}
use Rattle.mate_rules.specs.Run.{push_of, counts_as}
use Rattle.mate_rules.specs.InnerScan.{run_after, found_after}

module _ (x b : ℕ) where
  pub run_digit : is_digit b ≡ true → run_after x b ≡ push_of x b
  unfolding run_after
  run_digit e = rw e

  pub run_letter : is_digit b ≡ false → run_after x b ≡ 0
  unfolding run_after
  run_letter e = rw e

  -- a byte that is no digit leaves the run to be counted
  pub push_letter : is_digit b ≡ false → push_of x b ≡ x
  unfolding push_of
  push_letter e = rw e

module _ {S : Type 0} (f : S → ℤ → ℕ → S) (x : ℕ) (s : S) (b : ℕ) where
  pub found_digit : is_digit b ≡ true → found_after f x s b ≡ s
  unfolding found_after
  found_digit e = rw e

  pub found_letter : is_digit b ≡ false → found_after f x s b ≡ f s (pos (counts_as x)) b
  unfolding found_after
  found_letter e = rw e
