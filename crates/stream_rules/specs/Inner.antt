-- What a block of input promises, wherever a stream is cut into blocks. Document 01's rule is `Stream`.
use Rattle.std.specs.Prelude.{ℕ, ◌+◌, ◌≤◌, ◌<◌, ◌≡◌, Bool, true, false, List, ◌++◌, length, take, drop}
use Rattle.stream_rules.specs.Stream.{next_in, so_far, Reports}
use Rattle.stream_rules.specs.declared.NextFrame.{NextFrame}
use Rattle.stream_rules.specs.declared.NextFrame.TheVariants.{Record, TooLong, CutShort, End, More}
use Rattle.stream_rules.specs.declared.Block.{Block}

-- Of bytes s at hand so many are used, and their records' lines are put from place at on: whatever follows s, and whatever t is printed of the rest,
-- these lines and t are printed of s and what follows.
pub record Gone (s : List ℕ) (records : ℕ) (d : List ℕ) (at used n put : ℕ) (d' : List ℕ) : Type 0 where
  pub within : used ≤ length s
  pub counted : n ≤ records + used
  pub from : at ≤ put
  pub upto : put ≤ 131072
  pub same : length d' ≡ length d
  pub kept : take at d' ≡ take at d
  pub earned : at < put → 0 < used
  pub lines : (failed : Bool) (ys t : List ℕ) → Reports failed n (drop used s ++ ys) t → Reports failed records (s ++ ys) (drop at (take put d') ++ t)

-- As far as the records at hand and the room go: what comes next is told, and a record that is at hand is left only where there is no room for a line more.
pub record Went (s : List ℕ) (whole : Bool) (records : ℕ) (d : List ℕ) (at : ℕ) (r : Block) (d' : List ℕ) : Type 0 where
  pub gone : Gone s records d at r.used r.records r.put d'
  pub next : r.next ≡ so_far whole (next_in (drop r.used s))
  pub full : (size : ℕ) → r.next ≡ Record size → 65280 < r.put

abbrev pub goes_on : NextFrame → Bool
goes_on (Record size) = true
goes_on More = true
goes_on TooLong = false
goes_on CutShort = false
goes_on End = false
