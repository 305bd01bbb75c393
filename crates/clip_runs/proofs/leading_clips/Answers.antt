-- The run of S and H is its soft and its hard bases.
use Rattle.clip_run_rules.proofs.RunLaws.{clips_found}
use Rattle.clip_runs.proofs.leading_clips.Goals as goal

pub returns : goal.returns
returns g c =
    clips_found c.clip_run-e.ensures
