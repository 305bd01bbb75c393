-- The run's bases so far and what is left of the run make the run; an op outside the mask, or none, ends it.
use Prim.Native.Nat.{ℕ, ◌+◌, ◌*◌, ◌≤◌}
use mathlib.Core.Path.{◌≡◌}
use mathlib.Core.List.{List}
use lib.ListN.{drop}
use Rattle.lists.specs.Lists.{sum_of}
use Rattle.clip_run_rules.specs.Clips.{soft_len, hard_len, run, after_run}
use Rattle.clip_run_rules.specs.InnerWalked.{in_mask}
use Rattle.clip_runs.proofs.run_at.Given as goal

abbrev left : (ℕ → ℕ) → ℕ → List ℕ → ℕ → ℕ
left f mask xs i = sum_of f (run (in_mask mask) (drop i xs))

abbrev pub invariant-loop-next : goal.invariant-loop-next
invariant-loop-next g l =
    let xs = g.L.OpList.ops l.list in
    (l.soft + left soft_len l.mask xs l.next ≡ left soft_len l.mask xs l.from)
    × (l.hard + left hard_len l.mask xs l.next ≡ left hard_len l.mask xs l.from)
    × (after_run (in_mask l.mask) (drop l.next xs) ≡ after_run (in_mask l.mask) (drop l.from xs))
    × (l.soft ≤ 268435456 * l.next)
    × (l.hard ≤ 268435456 * l.next)
