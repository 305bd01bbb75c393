-- The run's bases so far and what is left of the run make the run; an op that is neither S nor H, or none, ends it.
use Prim.Native.Nat.{ℕ, ◌+◌, ◌*◌, ◌≤◌}
use mathlib.Core.Path.{◌≡◌}
use mathlib.Core.List.{List}
use lib.ListN.{drop}
use Rattle.lists.specs.Lists.{sum_of}
use Rattle.ops.specs.Ops.{is_clip}
use Rattle.clip_run_rules.specs.Clips.{soft_len, hard_len, run, after_run}
use Rattle.clip_runs.proofs.clip_run.Given as goal

abbrev left : (ℕ → ℕ) → List ℕ → ℕ → ℕ
left f xs i = sum_of f (run is_clip (drop i xs))

abbrev pub invariant-loop-next : goal.invariant-loop-next
invariant-loop-next g l =
    let xs = g.L.OpList.ops l.list in
    (l.soft + left soft_len xs l.next ≡ left soft_len xs 0)
    × (l.hard + left hard_len xs l.next ≡ left hard_len xs 0)
    × (after_run is_clip (drop l.next xs) ≡ after_run is_clip xs)
    × (l.soft ≤ 268435456 * l.next)
    × (l.hard ≤ 268435456 * l.next)
