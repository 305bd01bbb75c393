-- Reading back what was written: each field and each part of the new record.
use Prim.Native.Nat.{ℕ, ◌+◌, ◌-◌, ◌*◌, ◌/◌, ◌%◌, ◌≤◌, ◌<◌}
use mathlib.Core.Path.{◌≡◌, refl, sym, ap, ◌∙◌}
use mathlib.Core.List.{List, ◌++◌, append_assoc}
use native.Mathlib.Omega.{arith}
use lib.ListN.{length, get_or, take, drop, length-drop, length-append}
use lib.Seq.{take_at, drop_at, length-take-le}
use mir.Syntax.{w32}
use mir.Val.{SFits}
use Rattle.lists.specs.Lists.{Each}
use Rattle.signed.specs.Whole.{bits32, twos32}
use Rattle.signed.proofs.Halves.{bits32_back, bits32_below}
use Rattle.sam.specs.Record.{byte_at, ref_id_of, pos_of, name_len_of, stored_bin_of, op_count_of, flags_of, seq_len_of, mate_ref_id_of, mate_pos_of, template_len_of, ops_start, ops_in, bases_start, quals_start, tags_start, uint32, op_bytes}
use Rattle.sam.specs.Bases.{bases_of, packed}
use Rattle.sam.specs.Parts.{part, header_part, name_part, ops_part, bases_part, quals_part, tags_part, record_bases, uint16}
use Rattle.sam.proofs.BaseLaws.{length_behind, read_back, last_half}
use Rattle.sam.proofs.PartLaws.{read_ops}
use Rattle.oplist.specs.Ops.{record_ops}
use Rattle.record_rules.specs.Written.{Change, new_header, new_name, new_ops, new_bases, new_quals, new_tags, new_record}
use Rattle.record_rules.specs.Reading.{Bytes}
use Rattle.record_rules.proofs.PlanLaws.{ops_lie}
use Rattle.record_rules.proofs.PartLaws.{bytes_from, part_bytes, bases_left, header_size, name_size, ops_size, bases_size, quals_size}

-- a part between two others
part_at : (p q r : List ℕ) (at n : ℕ) → length p ≡ at → length q ≡ n → part (p ++ (q ++ r)) at n ≡ q
part_at p q r at n e f = ap (take n) (drop_at p (q ++ r) at e) ∙ take_at q r n f

-- what a change has to be, so that a record's numbers hold it
pub record Holdable (b : List ℕ) (c : Change) : Type 0 where
  pub bytes : Bytes b
  pub whole : tags_start b ≤ length b
  pub within : c.from + c.len ≤ seq_len_of b
  pub few : length c.ops ≤ 65535
  pub ops_small : Each (λ o. o < 4294967296) c.ops
  pub place_fits : SFits w32 c.place
  pub bin_small : c.bin < 65536

module _ (b : List ℕ) (c : Change) (H : Holdable b c) where
  abbrev Rest : List ℕ
  Rest = new_name b c ++ (new_ops b c ++ (new_bases b c ++ (new_quals b c ++ new_tags b c)))

  long : 32 ≤ length b
  long = omega (arith, H.whole)

  -- ---- the header, byte by byte

  header_is : new_header b c
      ≡ bytes_from b 0 4
      ++ (uint32 (bits32 c.place)
      ++ (bytes_from b 8 2 ++ (uint16 c.bin ++ (uint16 (length c.ops) ++ (bytes_from b 14 2 ++ (uint32 c.len ++ bytes_from b 20 12))))))
  header_is =
      let l = long in
      rw (part_bytes b 0 4 (omega arith), part_bytes b 8 2 (omega arith), part_bytes b 14 2 (omega arith), part_bytes b 20 12 (omega arith)) refl

  -- a field of the new record, from its header alone
  field : {A : Type 0} (f : List ℕ → A) → f (new_record b c)
      ≡ f ((bytes_from b 0 4
      ++ (uint32 (bits32 c.place)
      ++ (bytes_from b 8 2 ++ (uint16 c.bin ++ (uint16 (length c.ops) ++ (bytes_from b 14 2 ++ (uint32 c.len ++ bytes_from b 20 12)))))))
      ++ Rest)
  unfolding new_record
  field f = ap (λ (h : List ℕ). f (h ++ Rest)) header_is

  pub ref_back : ref_id_of (new_record b c) ≡ ref_id_of b
  unfolding bytes_from
  ref_back = field ref_id_of

  pub name_len_back : name_len_of (new_record b c) ≡ name_len_of b
  unfolding bytes_from
  name_len_back = field name_len_of

  pub mapping_back : byte_at (new_record b c) 9 ≡ byte_at b 9
  unfolding bytes_from
  mapping_back = field (λ (l : List ℕ). byte_at l 9)

  pub flags_back : flags_of (new_record b c) ≡ flags_of b
  unfolding bytes_from
  flags_back = field flags_of

  pub mate_ref_back : mate_ref_id_of (new_record b c) ≡ mate_ref_id_of b
  unfolding bytes_from
  mate_ref_back = field mate_ref_id_of

  pub mate_place_back : mate_pos_of (new_record b c) ≡ mate_pos_of b
  unfolding bytes_from
  mate_place_back = field mate_pos_of

  pub template_back : template_len_of (new_record b c) ≡ template_len_of b
  unfolding bytes_from
  template_back = field template_len_of

  header_long : 32 ≤ length (new_record b c)
  unfolding new_record
  header_long = let s = header_size b c long in let a = length-append (new_header b c) Rest in omega arith

  -- the bytes between the numbers that change
  stays : (at n : ℕ) → at + n ≤ 32 → bytes_from (new_record b c) at n ≡ bytes_from b at n → part (new_record b c) at n ≡ part b at n
  stays at n h e =
      let l = long in
      let k = header_long in
      part_bytes (new_record b c) at n (omega arith) ∙ e ∙ sym (part_bytes b at n (omega arith))

  pub first_stays : part (new_record b c) 0 4 ≡ part b 0 4
  unfolding bytes_from
  first_stays = stays 0 4 (omega arith) (field (λ (l : List ℕ). bytes_from l 0 4))

  pub second_stays : part (new_record b c) 8 2 ≡ part b 8 2
  unfolding bytes_from
  second_stays = stays 8 2 (omega arith) (field (λ (l : List ℕ). bytes_from l 8 2))

  pub third_stays : part (new_record b c) 14 2 ≡ part b 14 2
  unfolding bytes_from
  third_stays = stays 14 2 (omega arith) (field (λ (l : List ℕ). bytes_from l 14 2))

  pub last_stays : part (new_record b c) 20 12 ≡ part b 20 12
  unfolding bytes_from
  last_stays = stays 20 12 (omega arith) (field (λ (l : List ℕ). bytes_from l 20 12))

  pub place-back : pos_of (new_record b c) ≡ c.place
  unfolding bytes_from
  place-back =
      let z : ℕ = bits32 c.place in
      let h : z < 4294967296 = bits32_below c.place H.place_fits in
      let e : z % 256 + 256 * (z / 256 % 256) + 65536 * (z / 256 / 256 % 256) + 16777216 * (z / 256 / 256 / 256 % 256) ≡ z = omega arith in
      field pos_of ∙ ap twos32 e ∙ bits32_back c.place H.place_fits

  pub bin_back : stored_bin_of (new_record b c) ≡ c.bin
  unfolding bytes_from
  bin_back =
      let z : ℕ = c.bin in
      let e : z % 256 + 256 * (z / 256 % 256) ≡ z = omega (arith, H.bin_small) in
      field stored_bin_of ∙ e

  pub count_back : op_count_of (new_record b c) ≡ length c.ops
  unfolding bytes_from
  count_back =
      let z : ℕ = length c.ops in
      let e : z % 256 + 256 * (z / 256 % 256) ≡ z = omega (arith, H.few) in
      field op_count_of ∙ e

  seq_small : seq_len_of b < 4294967296
  seq_small =
      let w₀ = H.bytes 16 in let w₁ = H.bytes 17 in let w₂ = H.bytes 18 in let w₃ = H.bytes 19 in
      omega arith

  pub len_back : seq_len_of (new_record b c) ≡ c.len
  unfolding bytes_from
  len_back =
      let z : ℕ = c.len in
      let h : z < 4294967296 = omega (arith, seq_small, H.within) in
      let e : z % 256 + 256 * (z / 256 % 256) + 65536 * (z / 256 / 256 % 256) + 16777216 * (z / 256 / 256 / 256 % 256) ≡ z = omega arith in
      field seq_len_of ∙ e

  -- ---- where the parts are

  abbrev Two : List ℕ
  Two = new_header b c ++ new_name b c

  abbrev Three : List ℕ
  Three = Two ++ new_ops b c

  abbrev Four : List ℕ
  Four = Three ++ new_bases b c

  abbrev Five : List ℕ
  Five = Four ++ new_quals b c

  as_two : new_record b c ≡ Two ++ (new_ops b c ++ (new_bases b c ++ (new_quals b c ++ new_tags b c)))
  unfolding new_record
  as_two = sym (append_assoc (new_header b c) (new_name b c) (new_ops b c ++ (new_bases b c ++ (new_quals b c ++ new_tags b c))))

  as_three : new_record b c ≡ Three ++ (new_bases b c ++ (new_quals b c ++ new_tags b c))
  as_three = as_two ∙ sym (append_assoc Two (new_ops b c) (new_bases b c ++ (new_quals b c ++ new_tags b c)))

  as_four : new_record b c ≡ Four ++ (new_quals b c ++ new_tags b c)
  as_four = as_three ∙ sym (append_assoc Three (new_bases b c) (new_quals b c ++ new_tags b c))

  as_five : new_record b c ≡ Five ++ new_tags b c
  as_five = as_four ∙ sym (append_assoc Four (new_quals b c) (new_tags b c))

  two_size : length Two ≡ ops_start (new_record b c)
  two_size =
      let h = header_size b c long in
      let n = name_size b c H.whole H.within in
      let l = length-append (new_header b c) (new_name b c) in
      let e = name_len_back in
      omega arith

  three_size : length Three ≡ bases_start (new_record b c)
  three_size =
      let t = two_size in
      let o = ops_size b c H.whole H.within in
      let l = length-append Two (new_ops b c) in
      let e = count_back in
      omega arith

  four_size : length Four ≡ quals_start (new_record b c)
  four_size =
      let t = three_size in
      let o = bases_size b c H.whole H.within in
      let l = length-append Three (new_bases b c) in
      let e = ap (λ (n : ℕ). (n + 1) / 2) len_back in
      omega arith

  five_size : length Five ≡ tags_start (new_record b c)
  five_size =
      let t = four_size in
      let o = quals_size b c H.whole H.within in
      let l = length-append Four (new_quals b c) in
      let e = len_back in
      omega arith

  pub whole_back : tags_start (new_record b c) ≤ length (new_record b c)
  whole_back = let f = five_size in let e = ap length as_five in let l = length-append Five (new_tags b c) in omega arith

  -- ---- the parts

  pub header_back : header_part (new_record b c) ≡ new_header b c
  unfolding new_record
  header_back = take_at (new_header b c) Rest 32 (header_size b c long)

  pub name_back : name_part (new_record b c) ≡ name_part b
  unfolding new_record
  name_back =
      part_at (new_header b c) (new_name b c) (new_ops b c ++ (new_bases b c ++ (new_quals b c ++ new_tags b c))) 32 (name_len_of (new_record b c)) (header_size b c long)
      (name_size b c H.whole H.within ∙ sym name_len_back)

  pub ops_back : record_ops (new_record b c) ≡ c.ops
  ops_back =
      let r : List ℕ = new_bases b c ++ (new_quals b c ++ new_tags b c) in
      ops_lie (new_record b c) whole_back
      ∙ ap (λ (l : List ℕ). ops_in l (ops_start (new_record b c)) (op_count_of (new_record b c))) as_two
      ∙ ap (λ (at : ℕ). ops_in (Two ++ (op_bytes c.ops ++ r)) at (op_count_of (new_record b c))) (sym two_size)
      ∙ ap (ops_in (Two ++ (op_bytes c.ops ++ r)) (length Two)) count_back
      ∙ read_ops Two c.ops r H.ops_small

  pub ops_part_back : ops_part (new_record b c) ≡ new_ops b c
  ops_part_back =
      let r : List ℕ = new_bases b c ++ (new_quals b c ++ new_tags b c) in
      ap (λ (l : List ℕ). part l (ops_start (new_record b c)) (4 * op_count_of (new_record b c))) as_two
      ∙ part_at Two (new_ops b c) r (ops_start (new_record b c)) (4 * op_count_of (new_record b c)) two_size
      (ops_size b c H.whole H.within ∙ ap (λ (n : ℕ). 4 * n) (sym count_back))

  pub bases_part_back : bases_part (new_record b c) ≡ new_bases b c
  bases_part_back =
      ap (λ (l : List ℕ). part l (bases_start (new_record b c)) ((seq_len_of (new_record b c) + 1) / 2)) as_three
      ∙ part_at Three (new_bases b c) (new_quals b c ++ new_tags b c) (bases_start (new_record b c)) ((seq_len_of (new_record b c) + 1) / 2) three_size
      (bases_size b c H.whole H.within ∙ ap (λ (n : ℕ). (n + 1) / 2) (sym len_back))

  pub bases_back : record_bases (new_record b c) ≡ part (record_bases b) c.from c.len
  bases_back =
      let bs : List ℕ = bases_of (drop (bases_start b) b) in
      let l : length bs ≡ 2 * (length b - bases_start b) = length_behind b (bases_start b) in
      let e : part bs c.from c.len ≡ part (record_bases b) c.from c.len = bases_left b c.from c.len H.within in
      ap (λ (n : ℕ). take n (bases_of (bases_part (new_record b c)))) len_back
      ∙ ap (λ (s : List ℕ). take c.len (bases_of s)) bases_part_back
      ∙ ap (λ (s : List ℕ). take c.len (bases_of (packed s))) (sym e)
      ∙ read_back (drop (bases_start b) b) c.from c.len (omega (arith, H.within, H.whole))
      ∙ e

  pub half_back : c.len % 2 ≡ 1 → get_or (bases_of (bases_part (new_record b c))) c.len 0 ≡ 0
  half_back o =
      let bs : List ℕ = part (record_bases b) c.from c.len in
      let n : length (record_bases (new_record b c)) ≡ length bs = ap length bases_back in
      let e : c.len ≡ 2 * (c.len / 2) + 1 = omega arith in
      ap (λ (s : List ℕ). get_or (bases_of s) c.len 0) bases_part_back
      ∙ ap (λ (k : ℕ). get_or (bases_of (packed bs)) k 0) e
      ∙ last_half (c.len / 2) bs (bases-many ∙ e)
    where
      bases-many : length (part (record_bases b) c.from c.len) ≡ c.len
      bases-many =
          let bs : List ℕ = bases_of (drop (bases_start b) b) in
          let l : length bs ≡ 2 * (length b - bases_start b) = length_behind b (bases_start b) in
          let d = length-drop c.from bs in
          ap length (sym (bases_left b c.from c.len H.within)) ∙ length-take-le c.len (drop c.from bs) (omega (arith, H.within, H.whole))

  pub quals_back : quals_part (new_record b c) ≡ part (quals_part b) c.from c.len
  quals_back =
      ap (λ (l : List ℕ). part l (quals_start (new_record b c)) (seq_len_of (new_record b c))) as_four
      ∙ part_at Four (new_quals b c) (new_tags b c) (quals_start (new_record b c)) (seq_len_of (new_record b c)) four_size (quals_size b c H.whole H.within ∙ sym len_back)

  pub tags_back : tags_part (new_record b c) ≡ tags_part b
  tags_back = ap (drop (tags_start (new_record b c))) as_five ∙ drop_at Five (new_tags b c) (tags_start (new_record b c)) five_size
