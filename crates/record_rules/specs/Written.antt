-- Document 02, item 8: the bytes of the clipped record, part by part. "new ops, op count and l_seq, `pos` moved by the start count, bin recomputed, packed bases and
-- qualities of the lost query part removed, name and tags unchanged."
use Rattle.std.specs.Prelude.{ℕ, List, ◌++◌, ℤ, length}
use Rattle.signed.specs.Whole.{bits32}
use Rattle.sam.specs.Record.{uint32, op_bytes}
use Rattle.sam.specs.Bases.{packed}
use Rattle.sam.specs.Parts.{part, name_part, quals_part, tags_part, record_bases, uint16}

-- how a record changes: its new ops, position, bin and l_seq; the first base that stays; and the count
pub record Change : Type 0 where
  pub ops : List ℕ
  pub place : ℤ
  pub bin : ℕ
  pub len : ℕ
  pub from : ℕ
  pub count : ℕ

-- the parts of the record b, changed by c. The header: reference; position; name's length and mapping quality; bin; op count; flags; l_seq; mate's reference and
-- position, template length
abbrev pub new_header : List ℕ → Change → List ℕ
new_header b c =
    part b 0 4
    ++ (uint32 (bits32 c.place)
    ++ (part b 8 2
    ++ (uint16 c.bin ++ (uint16 (length c.ops) ++ (part b 14 2 ++ (uint32 c.len ++ part b 20 12))))))

abbrev pub new_name : List ℕ → Change → List ℕ
new_name b c = name_part b

abbrev pub new_ops : List ℕ → Change → List ℕ
new_ops b c = op_bytes c.ops

-- "Bases are two to a byte, first in the high four bits; an odd last half is 0."
abbrev pub new_bases : List ℕ → Change → List ℕ
new_bases b c = packed (part (record_bases b) c.from c.len)

abbrev pub new_quals : List ℕ → Change → List ℕ
new_quals b c = part (quals_part b) c.from c.len

abbrev pub new_tags : List ℕ → Change → List ℕ
new_tags b c = tags_part b

-- the record, its parts one after the other
unfoldable pub new_record : List ℕ → Change → List ℕ
new_record b c = new_header b c ++ (new_name b c ++ (new_ops b c ++ (new_bases b c ++ (new_quals b c ++ new_tags b c))))
