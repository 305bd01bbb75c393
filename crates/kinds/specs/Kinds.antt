-- Document 01, module 2: the kinds are M I D N S H P = X; "`kind` calls them `Pad`", the codes 9 to 15.
use Rattle.std.specs.Prelude.{ℕ, cond, List, [], ◌∷◌, pos, get_or, ltb, eqb, Err, None, Ok, Option, Some}
use Rattle.answers.specs.Answer.{Answer}
use Rattle.kinds.specs.declared.CigarOp.{CigarOp}
use Rattle.sam.specs.Op.{op_of, letters}
use Rattle.answers.specs.Answers.{Told, answered, refused, some, none}
use Rattle.answers.specs.declared.Refusal.TheVariants.{BadLength}
use Rattle.kinds.specs.declared.CigarKind.{CigarKind}
use Rattle.kinds.specs.declared.CigarKind.TheVariants.{Match, Insertion, Deletion, Skip, SoftClip, HardClip, Pad, SequenceMatch, SequenceMismatch}

-- the nine kinds, by code
abbrev pub code_of_kind : CigarKind → ℕ
code_of_kind Match = 0
code_of_kind Insertion = 1
code_of_kind Deletion = 2
code_of_kind Skip = 3
code_of_kind SoftClip = 4
code_of_kind HardClip = 5
code_of_kind Pad = 6
code_of_kind SequenceMatch = 7
code_of_kind SequenceMismatch = 8

-- a code's kind, `Pad` where there is no such code
abbrev pub kinds : List CigarKind
kinds = Match ∷ Insertion ∷ Deletion ∷ Skip ∷ SoftClip ∷ HardClip ∷ Pad ∷ SequenceMatch ∷ SequenceMismatch ∷ []

unfoldable pub kind_of : ℕ → CigarKind
kind_of c = get_or kinds c Pad

abbrev pub letter_of_kind : CigarKind → ℕ
letter_of_kind k = get_or letters (code_of_kind k) 0

-- `from_op_type` takes its argument whole
unfoldable pub from_op_type : ℕ → Option CigarKind
from_op_type v = cond (ltb 8 v) None (Some (kind_of v))

abbrev pub tell_kind : Option CigarKind → Told
tell_kind (Some k) = answered (some (pos (code_of_kind k)))
tell_kind None = answered none

-- `CigarOp::new`: refusal 10 for length 0 or above 268,435,455
unfoldable pub new_op : CigarKind → ℕ → Answer CigarOp
new_op k n = cond (eqb n 0) (Err BadLength) (cond (ltb 268435455 n) (Err BadLength) (Ok (record { 0 = op_of n (code_of_kind k) })))

abbrev pub tell_op : Answer CigarOp → Told
tell_op (Ok o) = answered (pos o.0 ∷ [])
tell_op (Err r) = refused r
