-- One run, and the other behind it.
use mathlib.Core.Path.{ap, ◌∙◌}
use native.Mathlib.Omega.{arith}
use lib.ListN.{length}
use Rattle.lists.proofs.ListLaws.{length_splice}
use Rattle.md_rules.specs.InnerWalk.{run_of}
use Rattle.md_runs.proofs.PutLaws.{put_two, pair_length}
use Rattle.md_runs.proofs.put_pair.Goals as goal

pub put_run-next-requires : goal.put_run-next-requires
put_run-next-requires c =
    (c.requires.0, omega arith, omega (arith, pair_length c.args.k c.args.m, c.requires.2))

pub put_run-requires : goal.put_run-requires
put_run-requires c =
    let l = pair_length c.args.k c.args.m in
    let e = ap length c.put_run-next.ensures.out_after ∙ length_splice c.args.out.now c.args.place (run_of c.args.k 8) (omega (arith, l, c.requires.2)) in
    (c.requires.1, omega arith, omega (arith, e, c.put_run-next.ensures.value, l, c.requires.2))

pub returns-clause-value : goal.returns-clause-value
returns-clause-value c =
    (put_two c.args.out.now c.args.place c.put_run-next.new.out _ c.put_run-next.result _ c.args.k c.args.m (c.put_run-next.ensures.value, c.put_run-next.ensures.out_after) (c.put_run.ensures.value, c.put_run.ensures.out_after) c.requires.2).0

pub returns-clause-out_after : goal.returns-clause-out_after
returns-clause-out_after c =
    (put_two c.args.out.now c.args.place c.put_run-next.new.out _ c.put_run-next.result _ c.args.k c.args.m (c.put_run-next.ensures.value, c.put_run-next.ensures.out_after) (c.put_run.ensures.value, c.put_run.ensures.out_after) c.requires.2).1
