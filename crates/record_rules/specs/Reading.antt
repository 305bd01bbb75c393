-- Document 02, item 8: "Reading the output back gives the clipped list, the remaining bases in order and the same tags." What is promised of a record `new` that was
-- clipped from b and written, with its count.
use Rattle.std.specs.Prelude.{ℕ, ◌+◌, ◌%◌, ◌≤◌, ◌<◌, ◌≡◌, Bool, List, pos, ◌+ℤ◌, length, get_or, Ok}
use Rattle.sam.specs.Record.{byte_at, ref_id_of, pos_of, stored_bin_of, op_count_of, flags_of, seq_len_of, mate_ref_id_of, mate_pos_of, template_len_of, tags_start}
use Rattle.sam.specs.Bases.{bases_of}
use Rattle.sam.specs.Parts.{name_part, bases_part, quals_part, tags_part, record_bases}
use Rattle.oplist.specs.Ops.{record_ops}
use Rattle.bin_rules.specs.Bin.{record_bin}
use Rattle.clip_rules.specs.Answer.{clipped_ops}
use Rattle.record_rules.specs.Clipping.{new_len, first_kept}

-- what a record is made of: each a number below 256
abbrev pub Bytes : List ℕ → Type 0
Bytes b = (i : ℕ) → byte_at b i < 256

pub record ReadsBack (b : List ℕ) (amount : ℕ) (start : Bool) (new : List ℕ) (count : ℕ) : Type 0 where
  -- it is a record again, and ends behind its last quality: no 1, no 2
  pub bytes : Bytes new
  pub long : 32 ≤ length new
  pub whole : tags_start new ≤ length new
  -- "the clipped list"
  pub ops : record_ops new ≡ clipped_ops (record_ops b) amount start
  pub op_count : op_count_of new ≡ length (clipped_ops (record_ops b) amount start)
  -- "new l_seq"
  pub len : seq_len_of new ≡ new_len b (clipped_ops (record_ops b) amount start)
  -- "the remaining bases in order": at the start base i was base i + lost, at the end base i; the qualities likewise; "an odd last half is 0"
  pub base : (i : ℕ) → i < seq_len_of new → get_or (record_bases new) i 0 ≡ get_or (record_bases b) (first_kept b start (seq_len_of new) + i) 0
  pub half : seq_len_of new % 2 ≡ 1 → get_or (bases_of (bases_part new)) (seq_len_of new) 0 ≡ 0
  pub quality : (i : ℕ) → i < seq_len_of new → get_or (quals_part new) i 0 ≡ get_or (quals_part b) (first_kept b start (seq_len_of new) + i) 0
  -- "and the same tags"; the name
  pub tags : tags_part new ≡ tags_part b
  pub name : name_part new ≡ name_part b
  -- "`pos` moved by the start count, bin recomputed"
  pub place : pos_of new ≡ pos_of b +ℤ pos count
  pub bin : record_bin new ≡ Ok (stored_bin_of new)
  -- the fields that stay: reference, mapping quality, flags, the mate's reference and position, template length
  pub reference : ref_id_of new ≡ ref_id_of b
  pub mapping : byte_at new 9 ≡ byte_at b 9
  pub flags : flags_of new ≡ flags_of b
  pub mate_reference : mate_ref_id_of new ≡ mate_ref_id_of b
  pub mate_place : mate_pos_of new ≡ mate_pos_of b
  pub template : template_len_of new ≡ template_len_of b
