-- Document 01, "Marked examples", P1 to P10: each call with what it tells and what it leaves in lent memory.
use Rattle.std.specs.Prelude.{ℕ, Bool, true, false, List, [], ◌∷◌, ◌++◌, ℤ, pos}
use Rattle.sam.specs.Op.{op_of}
use Rattle.answers.specs.Answers.{Told, answered, some, none, tell_count, tell_nat}
use Rattle.answers.specs.Settled.{Outcome, keeps}
use Rattle.clip_rules.specs.Answer.{clipped_start, clipped_end, tell_clipped}
use Rattle.parsed_rules.specs.Parsed.{parsed}
use Rattle.lookup_rules.specs.Lookup.{looked, tell_found}
use Rattle.bin_rules.specs.Bin.{reg2bin}

-- one row of the table: what the call comes to, and what document 01 says
pub record Example : Type 0 where
  pub call : Outcome Told
  pub says : Outcome Told

abbrev told : {A : Type 0} → (A → Told) → Outcome A → Outcome Told
told tell x = record { answer = tell x.answer; left = x.left }

-- a call with no lent memory
abbrev alone : Told → Outcome Told
alone t = keeps t []

abbrev m : ℕ → ℕ
m n = op_of n 0

abbrev i : ℕ → ℕ
i n = op_of n 1

abbrev d : ℕ → ℕ
d n = op_of n 2

abbrev s : ℕ → ℕ
s n = op_of n 4

abbrev h : ℕ → ℕ
h n = op_of n 5

-- lent memory of six places
abbrev room : List ℕ
room = 1 ∷ 2 ∷ 3 ∷ 4 ∷ 5 ∷ 6 ∷ []

-- 5S20M2D5M and 5M3I2D6M
abbrev soft5 : List ℕ
soft5 = s 5 ∷ m 20 ∷ d 2 ∷ m 5 ∷ []

abbrev inserted : List ℕ
inserted = m 5 ∷ i 3 ∷ d 2 ∷ m 6 ∷ []

abbrev clips : List ℕ → ℕ → Outcome Told → Example
clips xs amount out = record { call = told tell_clipped (clipped_start xs amount room); says = out }

abbrev clips_end : List ℕ → ℕ → Outcome Told → Example
clips_end xs amount out = record { call = told tell_count (clipped_end xs amount room); says = out }

-- n ops, and the count; what the room holds
abbrev cut : ℕ → ℕ → List ℕ → Outcome Told
cut n count left = record { answer = answered (pos n ∷ pos count ∷ []); left = left }

-- n ops; what the room holds
abbrev accepted : ℕ → List ℕ → Outcome Told
accepted n left = record { answer = answered (pos n ∷ []); left = left }

abbrev reads : List ℕ → Outcome Told → Example
reads text out = record { call = told tell_count (parsed text room); says = out }

abbrev refused5 : Outcome Told
refused5 = keeps (record { number = 5; values = [] }) room

abbrev looks : ℕ → Bool → List ℤ → ℕ → Example
looks at asked values count = record { call = alone (tell_found (looked soft5 100 at asked)); says = alone (answered (values ++ (pos count ∷ []))) }

abbrev bins : ℕ → ℕ → ℕ → Example
bins beg end bin = record { call = alone (tell_nat (reg2bin (pos beg) (pos end))); says = alone (answered (pos bin ∷ [])) }

abbrev pub marked : List Example
marked =
    -- P1 5S20M2D5M start 3: 3H2S20M2D5M, 0. P2 start 25: 25H5M, 22. P3 start 26: 26H4M, 23
    clips soft5 3 (cut 5 0 (h 3 ∷ s 2 ∷ m 20 ∷ d 2 ∷ m 5 ∷ 6 ∷ []))
    ∷ clips soft5 25 (cut 2 22 (h 25 ∷ m 5 ∷ 3 ∷ 4 ∷ 5 ∷ 6 ∷ []))
    ∷ clips soft5 26 (cut 2 23 (h 26 ∷ m 4 ∷ 3 ∷ 4 ∷ 5 ∷ 6 ∷ []))
    -- P4 same list, end 5: 5S20M5H; document 02, item 12: without a count
    ∷ clips_end soft5 5 (accepted 3 (s 5 ∷ m 20 ∷ h 5 ∷ 4 ∷ 5 ∷ 6 ∷ []))
    -- P5 5M3I2D6M start 6: 8H2D6M, 5. P6 start 8: 8H6M, 7
    ∷ clips inserted 6 (cut 3 5 (h 8 ∷ d 2 ∷ m 6 ∷ 4 ∷ 5 ∷ 6 ∷ []))
    ∷ clips inserted 8 (cut 2 7 (h 8 ∷ m 6 ∷ 3 ∷ 4 ∷ 5 ∷ 6 ∷ []))
    -- "document 01's 4M3S start 9 now gives it": 19
    ∷ clips (m 4 ∷ s 3 ∷ []) 9 (keeps (record { number = 19; values = [] }) room)
    -- P7 text 010M accepted; 268435456M refused
    ∷ reads (48 ∷ 49 ∷ 48 ∷ 77 ∷ []) (accepted 1 (m 10 ∷ 2 ∷ 3 ∷ 4 ∷ 5 ∷ 6 ∷ []))
    ∷ reads (50 ∷ 54 ∷ 56 ∷ 52 ∷ 51 ∷ 53 ∷ 52 ∷ 53 ∷ 54 ∷ 77 ∷ []) refused5
    -- P8 5S5S10M refused; 3H5S10M accepted
    ∷ reads (53 ∷ 83 ∷ 53 ∷ 83 ∷ 49 ∷ 48 ∷ 77 ∷ []) refused5
    ∷ reads (51 ∷ 72 ∷ 53 ∷ 83 ∷ 49 ∷ 48 ∷ 77 ∷ []) (accepted 3 (h 3 ∷ s 5 ∷ m 10 ∷ 4 ∷ 5 ∷ 6 ∷ []))
    -- P9 lookup, 5S20M2D5M from 100: 119 gives 25; 120 none, or 25 if asked; 122 gives 26. Document 02, item 9: the M is the second op, the D the third; 99 is before the start
    ∷ looks 119 false (some (pos 25)) 2
    ∷ looks 120 false none 3
    ∷ looks 120 true (some (pos 25)) 3
    ∷ looks 122 false (some (pos 26)) 4
    ∷ looks 127 false none 4
    ∷ looks 99 false none 0
    -- P10 bins: (0,1) 4681; (16383,16385) 585; (131071,131073) 73; (0,2^29) 0
    ∷ bins 0 1 4681
    ∷ bins 16383 16385 585
    ∷ bins 131071 131073 73
    ∷ bins 0 536870912 0
    ∷ []

-- the calls of the table, and what it says of them
abbrev pub calls : List Example → List (Outcome Told)
calls [] = []
calls (e ∷ es) = e.call ∷ calls es

abbrev pub sayings : List Example → List (Outcome Told)
sayings [] = []
sayings (e ∷ es) = e.says ∷ sayings es
