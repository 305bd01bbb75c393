-- The clip at the end of the list that the reader names, whose own number of ops is the limit; or the reader's refusal.
use Prim.Native.Nat.{ℕ}
use Rattle.std.specs.Prelude.{Err}
use mathlib.Core.Path.{sym, ap, ◌∙◌}
use mathlib.Core.Bool.{false}
use mathlib.Core.List.{List}
use Rattle.answers.proofs.Unique.{resettled}
use Rattle.clip_rules.specs.Answer.{clipped_into, without_count}
use Rattle.clip_rules.proofs.AnswerLaws.{own_limit}
use Rattle.tag_rules.proofs.HeldLaws.{reads_list}
use Rattle.true_rules.specs.True.{stop_kept}
use Rattle.true_ends.proofs.true_clip_cigar_end.Goals as goal

pub returns : goal.returns
returns c =
    let list = reads_list (stop_kept Err c.args.out.now) (λ (l : List ℕ). clipped_into l c.args.amount false c.args.out.now) c.args.bam.now _ _ (sym c.in_ok-area.ensures) in
    resettled (ap without_count (list ∙ own_limit _ _ c.args.amount false c.args.out.now _ c.count.ensures.value c.ops_at-list.ensures)) c.clip_end.ensures
