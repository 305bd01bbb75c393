-- A run for some, none for none.
use Prim.Native.Nat.{ℕ, ◌+◌}
use mathlib.Core.Path.{◌≡◌, refl, sym, ap}
use mathlib.Core.Bool.{Bool, true, false, not}
use native.Mathlib.Omega.{arith}
use mir.Val.{bool_byte}
use lib.Dec.{eqb}
use lib.ListN.{length}
use borrow.Author.Tests.{eqb-true, eqb-false}
use Rattle.md_rules.specs.InnerWalk.{pair_of}
use Rattle.md_rules.proofs.RunLaws.{run_none, run_some, pair_is}
use Rattle.md_runs.proofs.pair_count.Goals as goal

by_tests : (k m : ℕ) (t u : Bool) → eqb k 0 ≡ t → eqb m 0 ≡ u → bool_byte (not t) + bool_byte (not u) ≡ length (pair_of k m)
by_tests k m true true e f = sym (ap length (pair_is k m (run_none k 8 (eqb-true k 0 e)) (run_none m 7 (eqb-true m 0 f))))
by_tests k m true false e f = sym (ap length (pair_is k m (run_none k 8 (eqb-true k 0 e)) (run_some m 7 (eqb-false m 0 f))))
by_tests k m false true e f = sym (ap length (pair_is k m (run_some k 8 (eqb-false k 0 e)) (run_none m 7 (eqb-true m 0 f))))
by_tests k m false false e f = sym (ap length (pair_is k m (run_some k 8 (eqb-false k 0 e)) (run_some m 7 (eqb-false m 0 f))))

pub returns : goal.returns
returns c = omega (arith, c.from.ensures, c.from-2.ensures, by_tests c.args.k c.args.m _ _ refl refl)
