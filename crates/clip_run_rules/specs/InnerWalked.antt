-- What the walk hands on, as it stands to the runs of `Clips.antt`: places and numbers for lists. Cited by inner contracts only.
use Rattle.std.specs.Prelude.{ℕ, ◌/◌, ◌%◌, ◌^◌, ◌≤◌, ◌≡◌, Bool, List, length, drop, eqb}
use Rattle.lists.specs.Lists.{sum_of}
use Rattle.clip_run_rules.specs.Clips.{soft_len, hard_len, run, after_run, outer_hard, next_soft, inside}

-- bit c of a mask is code c's
abbrev pub in_mask : ℕ → ℕ → Bool
in_mask mask c = eqb (mask / 2 ^ c % 2) 1

-- a run from place `from` on: its soft and hard bases, and it ends before place next
pub record RunIs (xs : List ℕ) (from : ℕ) (p : ℕ → Bool) (soft hard next : ℕ) : Type 0 where
  pub soft_is : soft ≡ sum_of soft_len (run p (drop from xs))
  pub hard_is : hard ≡ sum_of hard_len (run p (drop from xs))
  pub rest-is : drop next xs ≡ after_run p (drop from xs)
  pub next_in : next ≤ length xs
  pub soft_fits : soft ≤ 1152921504606846976
  pub hard_fits : hard ≤ 1152921504606846976

-- h and s, and the place of the ops inside
pub record OuterIs (xs : List ℕ) (hard soft next : ℕ) : Type 0 where
  pub hard_is : hard ≡ outer_hard xs
  pub soft_is : soft ≡ next_soft xs
  pub rest-is : drop next xs ≡ inside xs
  pub next_in : next ≤ length xs
