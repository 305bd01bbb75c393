-- By the test.
use native.Mathlib.Omega.{arith}
use borrow.Author.Tests.{eq-eqb, ne_eqb}
use Rattle.clip_run_rules.specs.Clips.{len_if}
use Rattle.clip_runs.proofs.length_if.Goals as goal

pub returns-then-op-code : goal.returns-then-op-code
unfolding len_if
returns-then-op-code c =
    (simp (eq-eqb _ _ c.if-op-code.true) c.length_of.ensures.0, c.length_of.ensures.1)

pub returns : goal.returns
unfolding len_if
returns c =
    (simp (ne_eqb _ _ c.if-op-code.false), omega arith)
