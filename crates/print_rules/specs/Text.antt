-- Document 01, module 4: "Decimal without leading zeros, then the letter; length 0 prints as 0. No ops, or an overrun area, gives empty text."
use Rattle.std.specs.Prelude.{ℕ, Bool, false, cond, ◌||◌, List, [], ◌∷◌, ◌++◌, length, ltb, Err, Ok}
use Rattle.answers.specs.Answer.{Answer}
use Rattle.lists.specs.Lists.{splice}
use Rattle.sam.specs.Op.{len_of, code_of}
use Rattle.sam.specs.Record.{is_short}
use Rattle.oplist.specs.Ops.{record_ops}
use Rattle.answers.specs.Settled.{Outcome, keeps}
use Rattle.answers.specs.declared.Refusal.TheVariants.{ShortRecord, BadCode, NoRoom}
use Rattle.ops.specs.Ops.{letter_of}
use Rattle.decimal.specs.Decimal.{decimal}

unfoldable pub op_text : ℕ → List ℕ
unfolding letter_of
op_text o = decimal (len_of o) ++ (letter_of (code_of o) ∷ [])

unfoldable pub text_of : List ℕ → List ℕ
text_of [] = []
text_of (o ∷ xs) = op_text o ++ text_of xs

-- a code 9 to 15 has no letter
unfoldable pub any_bad : List ℕ → Bool
any_bad [] = false
any_bad (o ∷ xs) = ltb 8 (code_of o) || any_bad xs

-- the text of ops into lent memory d: 7, 6
abbrev pub printed_ops : List ℕ → List ℕ → Outcome (Answer ℕ)
printed_ops xs d =
    cond (any_bad xs) (keeps (Err BadCode) d)
    (cond (ltb (length d) (length (text_of xs))) (keeps (Err NoRoom) d)
    (record { answer = Ok (length (text_of xs)); left = splice d 0 (text_of xs) }))

-- `cigar_to_bytes_into` of a record: 1, 7, 6
unfoldable pub printed : List ℕ → List ℕ → Outcome (Answer ℕ)
printed b d = cond (is_short b) (keeps (Err ShortRecord) d) (printed_ops (record_ops b) d)
