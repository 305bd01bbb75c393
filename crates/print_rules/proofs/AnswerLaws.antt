-- Which case of the answer a record and the lent memory lead to: 1, then 7, then 6, then the text.
use Prim.Native.Nat.{ℕ, ◌≤◌, ◌<◌}
use Rattle.std.specs.Prelude.{Err, Ok}
use mathlib.Core.Path.{◌≡◌, refl, sym}
use mathlib.Core.Bool.{true, false}
use mathlib.Core.List.{List}
use native.Mathlib.Omega.{arith}
use lib.ListN.{length}
use borrow.Author.Tests.{lt-ltb, le-ltb, lt-leb}
use Rattle.lists.specs.Lists.{splice}
use Rattle.lists.proofs.ListLaws.{splice_nil}
use Rattle.sam.specs.Record.{ops_end}
use Rattle.oplist.specs.Ops.{record_ops}
use Rattle.answers.specs.Settled.{keeps}
use Rattle.answers.proofs.Unique.{outcome}
use Rattle.answers.specs.declared.Refusal.TheVariants.{ShortRecord, BadCode, NoRoom}
use Rattle.print_rules.specs.Text.{text_of, any_bad, printed_ops, printed}

module _ (b d : List ℕ) where
  pub short : length b < 32 → printed b d ≡ keeps (Err ShortRecord) d
  unfolding printed
  short h = simp (lt-ltb (length b) 32 h)

  module _ (long : 32 ≤ length b) where
    pub of-ops : printed b d ≡ printed_ops (record_ops b) d
    unfolding printed
    of-ops = simp (le-ltb (length b) 32 long)

    -- "an overrun area, gives empty text"
    pub overrun : length b < ops_end b → printed b d ≡ keeps (Ok 0) d
    unfolding printed record_ops any_bad text_of
    overrun h = simp (le-ltb (length b) 32 long, lt-leb (ops_end b) (length b) h, le-ltb (length d) 0 (omega arith)) (outcome refl (sym (splice_nil d 0)))

module _ (xs d : List ℕ) where
  -- 7 is looked for in the whole list before 6, whatever the room
  pub bad_code : any_bad xs ≡ true → printed_ops xs d ≡ keeps (Err BadCode) d
  bad_code e = simp e

  module _ (good : any_bad xs ≡ false) where
    pub no_room : length d < length (text_of xs) → printed_ops xs d ≡ keeps (Err NoRoom) d
    no_room h = simp (good, lt-ltb (length d) (length (text_of xs)) h)

    pub fits : length (text_of xs) ≤ length d → printed_ops xs d ≡ record { answer = Ok (length (text_of xs)); left = splice d 0 (text_of xs) }
    fits h = simp (good, le-ltb (length d) (length (text_of xs)) h)
