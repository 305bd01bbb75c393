-- The H run, and the S run from where it ends.
use Rattle.clip_run_rules.proofs.RunLaws.{outer_found}
use Rattle.clip_runs.proofs.outer_runs.Goals as goal

pub returns : goal.returns
returns g c =
    outer_found c.run_at-h.ensures c.run_at-s.ensures
