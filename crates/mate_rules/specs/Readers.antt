-- SAM specification 1.4.6 and document 01, module 6: two readers of one format agree. On a text that spells an op list with lengths of 28 bits, as each text
-- that the strict reader accepts does, mate text's leading clips, reference length and trailing clips are those of the list.
use Rattle.std.specs.Prelude.{ℕ, ◌≤◌, ◌≡◌, List}
use Rattle.lists.specs.Lists.{Each, sum_of}
use Rattle.sam.specs.Op.{len_of, ref_len}
use Rattle.clip_run_rules.specs.Clips.{leading_clips, clips_after_reference}
use Rattle.mate_rules.specs.Pieces.{mate_leading, mate_reference, mate_trailing}

abbrev pub Short : List ℕ → Type 0
Short ops = Each (λ o. len_of o ≤ 268435455) ops

pub record Agree (s ops : List ℕ) : Type 0 where
  pub leading : mate_leading s ≡ leading_clips ops
  pub reference : mate_reference s ≡ sum_of ref_len ops
  pub trailing : mate_trailing s ≡ clips_after_reference ops
