-- Document 01, "Numbers and their bounds", and document 02: the number of each refusal; and of each answer its number, 0 for a value, and its values.
use Rattle.std.specs.Prelude.{ℕ, Bool, cond, List, [], ◌∷◌, ℤ, pos, Err, None, Ok, Option, Some}
use Rattle.answers.specs.Answer.{Answer}
use Rattle.answers.specs.declared.Pos0.{Pos0}
use Rattle.answers.specs.declared.Pos1.{Pos1}
use Rattle.answers.specs.declared.Refusal.{Refusal}
use Rattle.answers.specs.declared.Refusal.TheVariants.{ShortRecord, AreaOverrun, TooManyOps, Overflow, NotACigar, NoRoom, BadCode, TooLong, BadStart, BadLength, AmountBeyond, BadLevels, BadRegion, NoBlocks, QueryDiffers, CountOver, BadTags, OtherCg, BadMd, MatchesTold, MdDisagrees, ReceivedShort, ReceivedCut}

abbrev pub number_of : Refusal → ℕ
number_of ShortRecord = 1
number_of AreaOverrun = 2
number_of TooManyOps = 3
number_of Overflow = 4
number_of NotACigar = 5
number_of NoRoom = 6
number_of BadCode = 7
number_of TooLong = 8
number_of BadStart = 9
number_of BadLength = 10
-- document 02
number_of BadTags = 12
number_of OtherCg = 13
number_of NoBlocks = 14
number_of QueryDiffers = 15
number_of CountOver = 16
number_of BadLevels = 17
number_of BadRegion = 18
number_of AmountBeyond = 19
number_of BadMd = 20
number_of MatchesTold = 21
number_of MdDisagrees = 22
number_of ReceivedShort = 23
number_of ReceivedCut = 24

-- what a caller is told: a refusal carries its number and no value
pub record Told : Type 0 where
  pub number : ℕ
  pub values : List ℤ

abbrev pub answered : List ℤ → Told
answered vs = record { number = 0; values = vs }

abbrev pub refused : Refusal → Told
refused r = record { number = number_of r; values = [] }

abbrev pub flag_value : Bool → ℤ
flag_value b = cond b (pos 1) (pos 0)

-- "none" is the answer 0, 0; a value that may be none is 1 and the value
abbrev pub none : List ℤ
none = pos 0 ∷ pos 0 ∷ []

abbrev pub some : ℤ → List ℤ
some z = pos 1 ∷ z ∷ []

abbrev pub tell_int : Answer ℤ → Told
tell_int (Ok z) = answered (z ∷ [])
tell_int (Err r) = refused r

abbrev pub tell_nat : Answer ℕ → Told
tell_nat (Ok n) = answered (pos n ∷ [])
tell_nat (Err r) = refused r

abbrev pub tell_count : Answer ℕ → Told
tell_count (Ok n) = answered (pos n ∷ [])
tell_count (Err r) = refused r

abbrev pub tell_flag : Answer Bool → Told
tell_flag (Ok b) = answered (flag_value b ∷ [])
tell_flag (Err r) = refused r

-- a place that its call always finds is told as a plain number
abbrev pub bare0 : Answer Pos0 → Answer ℤ
bare0 (Ok p) = Ok p.0
bare0 (Err r) = Err r

abbrev pub tell_place0 : Answer Pos0 → Told
tell_place0 p = tell_int (bare0 p)

-- a place that may be none
abbrev pub tell_place1 : Answer (Option Pos1) → Told
tell_place1 (Ok (Some p)) = answered (some p.0)
tell_place1 (Ok None) = answered none
tell_place1 (Err r) = refused r
