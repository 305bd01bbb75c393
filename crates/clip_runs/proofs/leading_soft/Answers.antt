-- The soft bases of the run of S and H.
use Rattle.clip_run_rules.proofs.RunLaws.{soft_found}
use Rattle.clip_runs.proofs.leading_soft.Goals as goal

pub returns : goal.returns
returns g c =
    soft_found c.clip_run.ensures
