-- Document 01, module 5, `is_valid_mapped_cigar` of a lent list: 3.
use Rattle.std.specs.Prelude.{ℕ, cond, List, length, ltb, Bool, Err, Ok}
use Rattle.answers.specs.Answer.{Answer}
use Rattle.oplist.specs.Ops.{most_ops}
use Rattle.answers.specs.declared.Refusal.TheVariants.{TooManyOps}
use Rattle.text_rules.specs.Valid.{valid_mapped}

unfoldable pub validity : List ℕ → Answer Bool
validity xs = cond (ltb most_ops (length xs)) (Err TooManyOps) (Ok (valid_mapped xs))
