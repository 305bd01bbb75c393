-- One read of an input, behind the bytes at hand: as many bytes as it answers stand there, and where there is room it answers 0 only at the end of the input, and below 0 only where it failed. That these
-- are the input's next bytes is proved of every input that says which bytes it has left (std's `remaining`). Standard input doesn't say, so of it this is assumed, and not proved.
use Rattle.std.specs.Prelude.{ℕ, ◌+◌, ◌-◌, ◌≤◌, ◌≡◌, Bool, true, false, cond, List, [], ◌++◌, eqb, ℤ, pos, negsuc, min, length, take, drop}
use Rattle.blocks.specs.declared.Read.{Read}
use Rattle.blocks.specs.declared.Source.{Source}
use Rattle.blocks.specs.declared.Source.TheVariants.{Open, Ended, Failed, Failing}

-- the last read gave none, at the end of the input or where it failed
abbrev pub is_over : Source → Bool
is_over Open = false
is_over Ended = true
is_over Failed = true
is_over Failing = false

abbrev pub is_failed : Source → Bool
is_failed Open = false
is_failed Ended = false
is_failed Failed = true
is_failed Failing = true

-- what a read answered, below 0 where it failed, brought into `0..=most`
abbrev pub clamp_len : ℤ → ℕ → ℕ
clamp_len (pos k) most = min k most
clamp_len (negsuc k) most = 0

-- what is known of the input behind it
abbrev pub source_of : ℤ → ℕ → Source
source_of (pos k) n = cond (eqb n 0) Ended Open
source_of (negsuc k) n = Failed

-- what is known of it: so many bytes were at hand, there is room for so many more, and the read answered `got`
abbrev pub read_of : ℕ → ℕ → ℤ → Read
read_of have room got = record { have = have + clamp_len got room; source = source_of got (clamp_len got room) }

pub record Filled (block : List ℕ) (have : ℕ) (r : Read) (block' : List ℕ) : Type 0 where
  pub got : ℤ
  pub is : r ≡ read_of have (length block - have) got
  pub same : length block' ≡ length block
  pub kept : take have block' ≡ take have block

-- the bytes that it gave
abbrev pub given : ℕ → Read → List ℕ → List ℕ
given have r block' = drop have (take r.have block')

-- The first reads of a program, one behind the other: the bytes that they gave, and what is known behind them.
pub data Gathers : List ℕ → Read → List ℕ → Type 0 where
  starts : {block : List ℕ} → Gathers [] (record { have = 0; source = Open }) block
  reads : {read block block' : List ℕ} {s r : Read} → Gathers read s block → Filled block s.have r block' → Gathers (read ++ given s.have r block') r block'

-- n bytes are at hand, or the last of these reads gave none
pub record First (n : ℕ) (r : Read) (block : List ℕ) : Type 0 where
  pub read : List ℕ
  pub gathers : Gathers read r block
  pub within : r.have ≤ length block
  pub enough : is_over r.source ≡ false → n ≤ r.have
