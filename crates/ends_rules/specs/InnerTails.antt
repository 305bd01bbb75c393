-- What the walk to a record's end comes to.
use Rattle.std.specs.Prelude.{ℕ, ◌+◌, max, cond, List}
use Rattle.lists.specs.Lists.{sum_of}
use Rattle.lists.specs.Runs.{holds}
use Rattle.sam.specs.Op.{ref_len}
use Rattle.clip_run_rules.specs.Clips.{clip_len, clips_after_reference}
use Rattle.ends_rules.specs.Tails.{ref_op, clips_to_next, greatest_run}
use Rattle.ends_rules.specs.declared.Tail.{Tail}

-- what a walk has once it has met the ops that are left
pub record Met : Type 0 where
  pub refs : ℕ
  pub clips : ℕ
  pub most : ℕ

unfoldable pub met : Tail → List ℕ → Met
met w xs = record {
  refs = w.refs + sum_of ref_len xs;
  clips = cond (holds ref_op xs) (clips_after_reference xs) (cond w.saw (w.clips + sum_of clip_len xs) w.clips);
  most = max w.most (max (cond w.saw (w.clips + clips_to_next xs) 0) (greatest_run xs));
}
