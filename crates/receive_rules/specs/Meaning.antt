-- Document 02, item 14: what accepting a record and naming a part mean.
use Rattle.std.specs.Prelude.{ℕ, ◌<◌, ◌≡◌, ◌⊎◌, List}
use Rattle.sam.specs.Parts.{header_part, name_part, ops_part, bases_part, quals_part, tags_part}
use Rattle.record_rules.specs.Written.{Change, new_header, new_name, new_ops, new_bases, new_quals, new_tags, new_record}
use Rattle.receive_rules.specs.Receiving.{binless, part_number}
use Rattle.receive_rules.specs.declared.Part.{Part}
use Rattle.receive_rules.specs.declared.Part.TheVariants.{Header, Name, Ops, Bases, Qualities, Tags}

-- "the received one equals item 8's record byte for byte, apart from the two bin bytes, which may also hold 0"
abbrev pub AsWritten : List ℕ → List ℕ → Change → Type 0
AsWritten g b c = (g ≡ new_record b c) ⊎ (g ≡ new_record b (binless c))

-- a part of it does
abbrev pub AsDue : Part → List ℕ → List ℕ → Change → Type 0
AsDue Header g b c = (header_part g ≡ new_header b c) ⊎ (header_part g ≡ new_header b (binless c))
AsDue Name g b c = name_part g ≡ new_name b c
AsDue Ops g b c = ops_part g ≡ new_ops b c
AsDue Bases g b c = bases_part g ≡ new_bases b c
AsDue Qualities g b c = quals_part g ≡ new_quals b c
AsDue Tags g b c = tags_part g ≡ new_tags b c

-- "the first differing part": it differs, and those before it don't
pub record First (p : Part) (g b : List ℕ) (c : Change) : Type 0 where
  pub differs : AsDue p g b c → ⊥
  pub before : (q : Part) → part_number q < part_number p → AsDue q g b c
