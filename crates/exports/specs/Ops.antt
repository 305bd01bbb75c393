-- include/cigar.h: kinds cross the border as their codes, 0 to 8; a kind above 8 answers none.
use Rattle.std.specs.Prelude.{ℕ, pos, Err, None, Ok, Option, Some}
use Rattle.answers.specs.Answer.{Answer}
use Rattle.kinds.specs.declared.CigarOp.{CigarOp}
use Rattle.kinds.specs.declared.CigarKind.{CigarKind}
use Rattle.answers.specs.Answers.{Told, answered, refused, some, none}
use Rattle.kinds.specs.Kinds.{letter_of_kind, new_op}

-- a kind's letter
abbrev pub char_of : Option CigarKind → Told
char_of (Some k) = answered (some (pos (letter_of_kind k)))
char_of None = answered none

-- an op of a kind and a length; here it may also be none
abbrev pub op_or_none : Answer CigarOp → Told
op_or_none (Ok o) = answered (some (pos o.0))
op_or_none (Err r) = refused r

abbrev pub op_answer : Option CigarKind → ℕ → Told
op_answer (Some k) n = op_or_none (new_op k n)
op_answer None n = answered none
