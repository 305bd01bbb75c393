-- Document 02, item 14: "Add a checker that takes the record we sent, an end, an amount, and the record we received." b is the record that was sent, g the received one.
use Rattle.std.specs.Prelude.{ℕ, Bool, true, false, cond, ◌&&◌, ◌||◌, List, [], ◌∷◌, ltb, eqb, pos, length, None, Option, Some, Ok, Err}
use Rattle.answers.specs.Answer.{Answer}
use Rattle.sam.specs.Record.{is_short, tags_start}
use Rattle.sam.specs.Parts.{header_part, name_part, ops_part, bases_part, quals_part, tags_part}
use Rattle.answers.specs.Answers.{Told, answered, refused}
use Rattle.answers.specs.declared.Refusal.TheVariants.{ReceivedShort, ReceivedCut}
use Rattle.record_rules.specs.Written.{Change, new_header, new_name, new_ops, new_bases, new_quals, new_tags}
use Rattle.record_rules.specs.Clipping.{Fate, Refuses, Becomes, clipped_fate}
use Rattle.receive_rules.specs.declared.Part.{Part}
use Rattle.receive_rules.specs.declared.Part.TheVariants.{Header, Name, Ops, Bases, Qualities, Tags}

-- "byte for byte"
unfoldable pub same : List ℕ → List ℕ → Bool
same [] [] = true
same [] (y ∷ ys) = false
same (x ∷ xs) [] = false
same (x ∷ xs) (y ∷ ys) = eqb x y && same xs ys

-- "apart from the two bin bytes, which may also hold 0": what item 8 writes, with the bin 0
abbrev pub binless : Change → Change
binless c = record { ops = c.ops; place = c.place; bin = 0; len = c.len; from = c.from; count = c.count }

abbrev pub same_header : List ℕ → List ℕ → Change → Bool
same_header g b c = same (header_part g) (new_header b c) || same (header_part g) (new_header b (binless c))

-- a part that differs is named; else what comes behind it decides
abbrev pub unless : Bool → Part → Answer (Option Part) → Answer (Option Part)
unless ok p next = cond ok next (Ok (Some p))

-- "it names the first differing part: header, name, ops, bases, qualities, tags": each of the received record's own parts beside item 8's
unfoldable pub compared : List ℕ → List ℕ → Change → Answer (Option Part)
compared g b c =
    unless (same_header g b c) Header
    (unless (same (name_part g) (new_name b c)) Name
    (unless (same (ops_part g) (new_ops b c)) Ops
    (unless (same (bases_part g) (new_bases b c)) Bases
    (unless (same (quals_part g) (new_quals b c)) Qualities
    (unless (same (tags_part g) (new_tags b c)) Tags (Ok None))))))

-- "23 the received record has under 32 bytes, 24 it ends before its last quality"
unfoldable pub weighed : List ℕ → List ℕ → Change → Answer (Option Part)
weighed g b c = cond (is_short g) (Err ReceivedShort) (cond (ltb (length g) (tags_start g)) (Err ReceivedCut) (compared g b c))

-- "Refusals: those of item 8 for the sent record, with no 6 as nothing is written; then" those
unfoldable pub received_as : List ℕ → List ℕ → Fate → Answer (Option Part)
received_as g b (Refuses r) = Err r
received_as g b (Becomes c) = weighed g b c

-- `check_clipped_start`, `check_clipped_end`
abbrev pub checked_start : List ℕ → ℕ → List ℕ → Answer (Option Part)
checked_start b amount g = received_as g b (clipped_fate b amount true)

abbrev pub checked_end : List ℕ → ℕ → List ℕ → Answer (Option Part)
checked_end b amount g = received_as g b (clipped_fate b amount false)

-- what is told: 0 for accepted, else the part's number
abbrev pub part_number : Part → ℕ
part_number Header = 1
part_number Name = 2
part_number Ops = 3
part_number Bases = 4
part_number Qualities = 5
part_number Tags = 6

abbrev pub tell_received : Answer (Option Part) → Told
tell_received (Ok None) = answered (pos 0 ∷ [])
tell_received (Ok (Some p)) = answered (pos (part_number p) ∷ [])
tell_received (Err r) = refused r
