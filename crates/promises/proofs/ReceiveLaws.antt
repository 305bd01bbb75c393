-- Document 02, item 14, over the definitions in the calls' contracts: a received record "accepts exactly when" it is item 8's record, with its bin or with 0; the part that is
-- named is the first that differs, in the stated order; and "Every record written by item 8 is accepted", also with its bin 0. b is the sent record, g the received one.
use Prim.Native.Nat.{ℕ, ◌≤◌}
use Rattle.std.specs.Prelude.{None, Some, Ok}
use mathlib.Core.Path.{◌≡◌}
use mathlib.Core.Bool.{Bool, true, false}
use mathlib.Core.List.{List, [], ◌∷◌}
use lib.ListN.{length}
use Rattle.lists.specs.Lists.{splice}
use Rattle.sam.specs.Record.{tags_start}
use Rattle.clip_laws.specs.Demand3.{StartGives, EndGives}
use Rattle.record_rules.specs.Written.{Change}
use Rattle.record_rules.specs.Clipping.{Becomes, clipped_fate, clipped_record_start, clipped_record_end}
use Rattle.record_rules.specs.Reading.{Bytes}
use Rattle.record_rules.proofs.GiveLaws.{start_given, end_given}
use Rattle.receive_rules.specs.Receiving.{received_as, checked_start, checked_end}
use Rattle.receive_rules.specs.Meaning.{AsWritten, First}
use Rattle.receive_rules.specs.declared.Part.{Part}
use Rattle.receive_rules.proofs.CallLaws as Calls

-- of a sent record that is not refused, and becomes c; at the start (`check_clipped_start`), or at the end (`check_clipped_end`)
module _ (b : List ℕ) (amount : ℕ) (start : Bool) (g : List ℕ) (c : Change) (e : clipped_fate b amount start ≡ Becomes c) where
  -- "It accepts exactly when the received one equals item 8's record byte for byte, apart from the two bin bytes, which may also hold 0"
  pub accepts_only : received_as g b (clipped_fate b amount start) ≡ (Ok None) → AsWritten g b c
  accepts_only h = Calls.accepts_only b amount start g c e h

  pub accepts_all : Bytes b → AsWritten g b c → received_as g b (clipped_fate b amount start) ≡ (Ok None)
  accepts_all w h = Calls.accepts_all b amount start g c e w h

  -- "Otherwise it names the first differing part": of a received record that is whole (no 24), exactly that
  pub names_first : (p : Part) → received_as g b (clipped_fate b amount start) ≡ (Ok (Some p)) → (tags_start g ≤ length g) × First p g b c
  names_first p h = Calls.names_first b amount start g c e p h

  pub first_named : (p : Part) → tags_start g ≤ length g → First p g b c → received_as g b (clipped_fate b amount start) ≡ (Ok (Some p))
  first_named p h F = Calls.first_named b amount start g c e p h F

-- "Every record written by item 8 is accepted": new is what `clip_record_start` and `clip_record_end` write, and their bin may be set to 0
pub accepts_start : (b : List ℕ) (amount : ℕ) (new : List ℕ) (count : ℕ) → Bytes b → StartGives clipped_record_start b amount new count → checked_start b amount new ≡ (Ok None)
accepts_start b amount new count w G = Calls.given_accepted b amount true w new count (start_given b amount new count G)

pub accepts_start_cleared : (b : List ℕ) (amount : ℕ) (new : List ℕ) (count : ℕ) → Bytes b → StartGives clipped_record_start b amount new count
    → checked_start b amount (splice new 10 (0 ∷ 0 ∷ [])) ≡ (Ok None)
accepts_start_cleared b amount new count w G = Calls.cleared_accepted b amount true w new count (start_given b amount new count G)

pub accepts_end : (b : List ℕ) (amount : ℕ) (new : List ℕ) → Bytes b → EndGives clipped_record_end b amount new → checked_end b amount new ≡ (Ok None)
accepts_end b amount new w G = Calls.given_accepted b amount false w new _ (end_given b amount new G)

pub accepts_end_cleared : (b : List ℕ) (amount : ℕ) (new : List ℕ) → Bytes b → EndGives clipped_record_end b amount new
    → checked_end b amount (splice new 10 (0 ∷ 0 ∷ [])) ≡ (Ok None)
accepts_end_cleared b amount new w G = Calls.cleared_accepted b amount false w new _ (end_given b amount new G)
