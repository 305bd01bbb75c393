-- Document 01, "Program": "Standard input: `CGR`, version 1 as a little-endian u16, then records, each after its u32 block size. A wrong or unfinished mark or version prints only
-- `bad input`. A block size above 32,768 prints `too long`, and an unfinished record or size prints `cut short`; reading ends there. The last line is `records N`, N the numbered lines."
use Rattle.std.specs.Prelude.{ℕ, ◌+◌, ◌≡◌, Bool, true, false, cond, ◌&&◌, List, [], ◌∷◌, ◌++◌, ltb, eqb, length, take, drop}
use Rattle.sam.specs.Record.{byte_at, le16, le32}
use Rattle.decimal.specs.Decimal.{decimal}
use Rattle.line_rules.specs.Line.{line_of}
use Rattle.stream_rules.specs.declared.NextFrame.{NextFrame}
use Rattle.stream_rules.specs.declared.NextFrame.TheVariants.{Record, TooLong, CutShort, End, More}

-- "`CGR`, version 1 as a little-endian u16"
unfoldable pub is_marked : List ℕ → Bool
is_marked s = cond (ltb (length s) 5) false (eqb (byte_at s 0) 67 && (eqb (byte_at s 1) 71 && (eqb (byte_at s 2) 82 && eqb (le16 s 3) 1)))

-- what comes next, s being all that is left of the stream
unfoldable pub next_in : List ℕ → NextFrame
next_in s =
    cond (eqb (length s) 0) End
    (cond (ltb (length s) 4) CutShort
    (cond (ltb 32768 (le32 s 0)) TooLong
    (cond (ltb (length s) (4 + le32 s 0)) CutShort
    (Record (le32 s 0)))))

-- the same where only a first part of the rest may be at hand: the end and a cut are not decided before all is
abbrev pub so_far : Bool → NextFrame → NextFrame
so_far true n = n
so_far false (Record size) = Record size
so_far false TooLong = TooLong
so_far false CutShort = More
so_far false End = More
so_far false More = More

-- "records N"
unfoldable pub records_line : ℕ → List ℕ
records_line n = (114 ∷ 101 ∷ 99 ∷ 111 ∷ 114 ∷ 100 ∷ 115 ∷ 32 ∷ []) ++ (decimal n ++ (10 ∷ []))

-- "too long", "cut short", or nothing at the end of the stream
abbrev pub closing_word : NextFrame → List ℕ
closing_word TooLong = 116 ∷ 111 ∷ 111 ∷ 32 ∷ 108 ∷ 111 ∷ 110 ∷ 103 ∷ 10 ∷ []
closing_word CutShort = 99 ∷ 117 ∷ 116 ∷ 32 ∷ 115 ∷ 104 ∷ 111 ∷ 114 ∷ 116 ∷ 10 ∷ []
closing_word End = []
closing_word (Record size) = []
closing_word More = []

unfoldable pub closing : NextFrame → ℕ → List ℕ
closing w n = closing_word w ++ records_line n

-- the end of what was read is not the stream's where a read failed: the stream is cut there
abbrev pub last_word : Bool → NextFrame → NextFrame
last_word failed (Record size) = Record size
last_word failed TooLong = TooLong
last_word failed CutShort = CutShort
last_word false End = End
last_word true End = CutShort
last_word failed More = More

-- t is what is printed of s, the rest of a stream of which n records are printed, or of so much of it as was read before a read failed
pub data Reports (failed : Bool) : ℕ → List ℕ → List ℕ → Type 0 where
  -- a record: its line, and what is printed of the rest
  line : {n size : ℕ} {s t : List ℕ} → next_in s ≡ Record size → Reports failed (n + 1) (drop (4 + size) s) t → Reports failed n s (line_of (n + 1) (take size (drop 4 s)) ++ t)
  -- "reading ends there"
  over : {n : ℕ} {s : List ℕ} → next_in s ≡ TooLong → Reports failed n s (closing TooLong n)
  short : {n : ℕ} {s : List ℕ} → next_in s ≡ CutShort → Reports failed n s (closing CutShort n)
  none : {n : ℕ} {s : List ℕ} → next_in s ≡ End → Reports failed n s (closing (last_word failed End) n)

-- "bad input"
abbrev pub bad_input : List ℕ
bad_input = 98 ∷ 97 ∷ 100 ∷ 32 ∷ 105 ∷ 110 ∷ 112 ∷ 117 ∷ 116 ∷ 10 ∷ []

-- what the program prints of a stream
abbrev pub Prints : List ℕ → List ℕ → Type 0
Prints s t = cond (is_marked s) (Reports false 0 (drop 5 s) t) (t ≡ bad_input)
