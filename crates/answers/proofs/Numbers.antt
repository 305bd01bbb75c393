-- No refusal has the number 0, which stands for an answer.
use Prim.Native.Nat.{suc, ◌-◌}
use mathlib.Core.Path.{◌≡◌, refl}
use mathlib.Core.Bool.{false}
use native.Mathlib.Omega.{arith}
use borrow.Author.Tests.{ne_eqb}
use lib.Dec.{eqb}
use Rattle.answers.specs.declared.Refusal.{Refusal}
use Rattle.answers.specs.declared.Refusal.TheVariants.{ShortRecord, AreaOverrun, TooManyOps, Overflow, NotACigar, NoRoom, BadCode, TooLong, BadStart, BadLength, AmountBeyond, BadLevels, BadRegion, NoBlocks, QueryDiffers, CountOver, BadTags, OtherCg, BadMd, MatchesTold, MdDisagrees, ReceivedShort, ReceivedCut}
use Rattle.answers.specs.Answers.{number_of}

pub from_one : (why : Refusal) → number_of why ≡ suc (number_of why - 1)
from_one ShortRecord = refl
from_one AreaOverrun = refl
from_one TooManyOps = refl
from_one Overflow = refl
from_one NotACigar = refl
from_one NoRoom = refl
from_one BadCode = refl
from_one TooLong = refl
from_one BadStart = refl
from_one BadLength = refl
from_one BadTags = refl
from_one OtherCg = refl
from_one NoBlocks = refl
from_one QueryDiffers = refl
from_one CountOver = refl
from_one BadLevels = refl
from_one BadRegion = refl
from_one AmountBeyond = refl
from_one BadMd = refl
from_one MatchesTold = refl
from_one MdDisagrees = refl
from_one ReceivedShort = refl
from_one ReceivedCut = refl

pub not-zero : (why : Refusal) → eqb (number_of why) 0 ≡ false
not-zero why = ne_eqb (number_of why) 0 (λ e. omega (arith, from_one why))
