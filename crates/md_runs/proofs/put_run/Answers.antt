-- One store, or none.
use mathlib.Core.Path.{ap}
use native.Mathlib.Omega.{arith}
use lib.ListN.{length}
use Rattle.md_rules.proofs.RunLaws.{run_none, run_some}
use Rattle.md_runs.proofs.PutLaws.{put_none, put_one}
use Rattle.md_runs.proofs.put_run.Goals as goal

pub bounds-out-place : goal.bounds-out-place
bounds-out-place c =
    omega (arith, ap length (run_some c.args.n c.args.code (λ z. omega arith)), c.requires.2)

pub returns-then-n-eq0-clause-value : goal.returns-then-n-eq0-clause-value
returns-then-n-eq0-clause-value c = (put_none c.args.out.now c.args.place (run_none c.args.n c.args.code c.if-n-eq0.true)).0

pub returns-then-n-eq0-clause-out_after : goal.returns-then-n-eq0-clause-out_after
returns-then-n-eq0-clause-out_after c = (put_none c.args.out.now c.args.place (run_none c.args.n c.args.code c.if-n-eq0.true)).1

pub returns-clause-value : goal.returns-clause-value
returns-clause-value c =
    let r = run_some c.args.n c.args.code (λ z. omega arith) in
    (put_one c.args.out.now c.args.place _ r (omega (arith, ap length r, c.requires.2))).0

pub returns-clause-out_after : goal.returns-clause-out_after
returns-clause-out_after c =
    let r = run_some c.args.n c.args.code (λ z. omega arith) in
    (put_one c.args.out.now c.args.place _ r (omega (arith, ap length r, c.requires.2))).1
