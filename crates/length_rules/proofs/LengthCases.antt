-- What is answered of a list or of a record, test by test.
use Prim.Native.Nat.{ℕ, ◌≤◌, ◌<◌}
use Rattle.std.specs.Prelude.{Err, Ok}
use Rattle.answers.specs.Answer.{Answer}
use mathlib.Core.Path.{◌≡◌, ap}
use mathlib.Core.List.{List}
use lib.IntN.{ℤ, pos}
use lib.ListN.{length}
use borrow.Author.Tests.{lt-ltb, le-ltb}
use Rattle.lists.specs.Lists.{sum_of}
use Rattle.sam.specs.Op.{ref_len, query_len}
use Rattle.sam.specs.Record.{ops_end}
use Rattle.answers.specs.declared.Refusal.TheVariants.{ShortRecord, AreaOverrun, TooManyOps, Overflow}
use Rattle.oplist.specs.Ops.{record_ops}
use Rattle.length_rules.specs.Lengths.{as_int, ref_length_up_to, query_length_up_to, checked_ref_length}

-- ---- a sum as a signed number

module _ (n : ℕ) where
  pub too_large : 2147483647 < n → Err Overflow ≡ as_int n
  unfolding as_int
  too_large h = simp (lt-ltb 2147483647 n h)

  pub small : n ≤ 2147483647 → (z : ℤ) → z ≡ pos n → Ok z ≡ as_int n
  unfolding as_int
  small h z e = simp (le-ltb 2147483647 n h) (ap Ok e)

-- ---- a lent list

module _ (limit : ℕ) (xs : List ℕ) where
  pub refs_beyond : limit < length xs → Err TooManyOps ≡ ref_length_up_to limit xs
  unfolding ref_length_up_to
  refs_beyond h = simp (lt-ltb limit (length xs) h)

  pub refs_within : length xs ≤ limit → (r : Answer ℤ) → r ≡ as_int (sum_of ref_len xs) → r ≡ ref_length_up_to limit xs
  unfolding ref_length_up_to
  refs_within h r e = simp (le-ltb limit (length xs) h) e

  pub query_beyond : limit < length xs → Err TooManyOps ≡ query_length_up_to limit xs
  unfolding query_length_up_to
  query_beyond h = simp (lt-ltb limit (length xs) h)

  pub query_within : length xs ≤ limit → (n : ℕ) → n ≡ sum_of query_len xs → Ok n ≡ query_length_up_to limit xs
  unfolding query_length_up_to
  query_within h n e = simp (le-ltb limit (length xs) h) (ap Ok e)

-- ---- a record

module _ (b : List ℕ) where
  pub short : length b < 32 → Err ShortRecord ≡ checked_ref_length b
  unfolding checked_ref_length
  short h = simp (lt-ltb (length b) 32 h)

  module _ (h : 32 ≤ length b) where
    pub overrun : length b < ops_end b → Err AreaOverrun ≡ checked_ref_length b
    unfolding checked_ref_length
    overrun k = simp (le-ltb (length b) 32 h, lt-ltb (length b) (ops_end b) k)

    pub inside : ops_end b ≤ length b → (r : Answer ℤ) → r ≡ as_int (sum_of ref_len (record_ops b)) → r ≡ checked_ref_length b
    unfolding checked_ref_length
    inside k r e = simp (le-ltb (length b) 32 h, le-ltb (length b) (ops_end b) k) e
