-- include/cigar.h: what crosses the C border. Of what is told of an answer (document 01, "Numbers and their bounds") the struct of its shape: the number, 0 for an answer,
-- and the values, each 0 beside a refusal.
use Rattle.std.specs.Prelude.{ℕ, Bool, true, not, ℤ, pos, negsuc, eqb, get_or}
use Rattle.signed.specs.Whole.{natural}
use Rattle.answers.specs.Answers.{Told}
use Rattle.answers.specs.Settled.{Outcome, OutcomeTwo}
use Rattle.border.specs.declared.ToldInt.{ToldInt}
use Rattle.border.specs.declared.ToldCount.{ToldCount}
use Rattle.border.specs.declared.ToldFlag.{ToldFlag}
use Rattle.border.specs.declared.ToldFound.{ToldFound}
use Rattle.border.specs.declared.ToldLookup.{ToldLookup}
use Rattle.border.specs.declared.ToldPosition.{ToldPosition}
use Rattle.border.specs.declared.ToldTwo.{ToldTwo}
use Rattle.border.specs.declared.ToldLengths.{ToldLengths}
use Rattle.border.specs.declared.ToldBlocks.{ToldBlocks}

-- the value at a place, 0 where there is none; and a value that is a flag
abbrev pub value_at : ℕ → Told → ℤ
value_at n t = get_or t.values n (pos 0)

abbrev pub is_set : ℤ → Bool
is_set (pos n) = not (eqb n 0)
is_set (negsuc n) = true

-- a signed number
abbrev pub int_of : Told → ToldInt
int_of t = record { refusal = t.number; value = value_at 0 t }

-- a number that is never negative
abbrev pub count_of : Told → ToldCount
count_of t = record { refusal = t.number; value = natural (value_at 0 t) }

-- yes or no
abbrev pub flag_of : Told → ToldFlag
flag_of t = record { refusal = t.number; value = is_set (value_at 0 t) }

-- none, or a number that is never negative
abbrev pub found_of : Told → ToldFound
found_of t = record { refusal = t.number; found = is_set (value_at 0 t); value = natural (value_at 1 t) }

-- the same, and a number that is never negative
abbrev pub lookup_of : Told → ToldLookup
lookup_of t = record { refusal = t.number; found = is_set (value_at 0 t); value = natural (value_at 1 t); examined = natural (value_at 2 t) }

-- which of three answers, and a signed number
abbrev pub position_of : Told → ToldPosition
position_of t = record { refusal = t.number; which = natural (value_at 0 t); value = value_at 1 t }

-- two numbers that are never negative
abbrev pub two_of : Told → ToldTwo
two_of t = record { refusal = t.number; first = natural (value_at 0 t); second = natural (value_at 1 t) }

-- a signed number, and five that are never negative
abbrev pub lengths_of : Told → ToldLengths
lengths_of t = record {
  refusal = t.number;
  reference = value_at 0 t;
  query = natural (value_at 1 t);
  leading_soft = natural (value_at 2 t);
  leading_hard = natural (value_at 3 t);
  trailing_soft = natural (value_at 4 t);
  trailing_hard = natural (value_at 5 t);
}

-- three numbers that are never negative
abbrev pub blocks_of : Told → ToldBlocks
blocks_of t = record { refusal = t.number; chrom_start = natural (value_at 0 t); chrom_end = natural (value_at 1 t); block_count = natural (value_at 2 t) }

-- a call with lent memory: its answer in the shape that it has, and the memory as the call leaves it
abbrev pub across : {A B : Type 0} → (Told → B) → (A → Told) → Outcome A → Outcome B
across shape tell o = record { answer = shape (tell o.answer); left = o.left }

-- the same of a call with two lent memories
abbrev pub across_two : {A B : Type 0} → (Told → B) → (A → Told) → OutcomeTwo A → OutcomeTwo B
across_two shape tell o = record { answer = shape (tell o.answer); first = o.first; second = o.second }

-- a flag as an argument: "anything but 0 counts as 1"
abbrev pub flagged : ℕ → Bool
flagged n = not (eqb n 0)
