-- The header byte by byte, and how long each part of the clipped record is.
use Prim.Native.Nat.{ℕ, zero, suc, ◌+◌, ◌-◌, ◌*◌, ◌/◌, ◌≤◌}
use mathlib.Core.Path.{◌≡◌, refl, sym, ap, ◌∙◌}
use mathlib.Core.List.{List, [], ◌∷◌, ◌++◌}
use native.Mathlib.Omega.{arith}
use lib.ListN.{length, take, drop, length-drop, length-append}
use lib.Seq.{take-take, length-take-le}
use Rattle.lists.specs.Lists.{splice}
use Rattle.lists.proofs.Splices.{part_of_front}
use Rattle.lists.proofs.Walks.{step}
use Rattle.sam.specs.Record.{byte_at, name_len_of, seq_len_of, bases_start, quals_start, tags_start, uint32}
use Rattle.sam.specs.Bases.{bases_of, packed}
use Rattle.sam.specs.Parts.{part, header_part, quals_part, record_bases, uint16}
use Rattle.sam.proofs.BaseLaws.{packed_size, length_behind, bases_take}
use Rattle.sam.proofs.PartLaws.{length_op_bytes}
use Rattle.record_rules.specs.Written.{Change, new_header, new_name, new_ops, new_bases, new_quals, new_tags, new_record}

-- ---- the header

-- n bytes from a place on, one by one
unfoldable pub bytes_from : List ℕ → ℕ → ℕ → List ℕ
bytes_from b at zero = []
bytes_from b at (suc n) = byte_at b at ∷ bytes_from b (at + 1) n

pub part_bytes : (b : List ℕ) (at n : ℕ) → at + n ≤ length b → part b at n ≡ bytes_from b at n
unfolding bytes_from
part_bytes b at zero h = refl
part_bytes b at (suc n) h = ap (take (suc n)) (step b at (byte_at b at) refl (omega arith)) ∙ ap (λ (l : List ℕ). byte_at b at ∷ l) (part_bytes b (at + 1) n (omega arith))

-- the header as it stands, with four numbers stored into it
pub header_stored : (b : List ℕ) (place bin n len : ℕ) → 32 ≤ length b
    → splice (splice (splice (splice (header_part b) 4 (uint32 place)) 10 (uint16 bin)) 12 (uint16 n)) 16 (uint32 len)
    ≡ part b 0 4 ++ (uint32 place ++ (part b 8 2 ++ (uint16 bin ++ (uint16 n ++ (part b 14 2 ++ (uint32 len ++ part b 20 12))))))
unfolding splice bytes_from
header_stored b place bin n len h =
    rw (part_bytes b 0 32 h, part_bytes b 0 4 (omega arith), part_bytes b 8 2 (omega arith), part_bytes b 14 2 (omega arith), part_bytes b 20 12 (omega arith)) refl

pub header_size : (b : List ℕ) (c : Change) → 32 ≤ length b → length (new_header b c) ≡ 32
unfolding bytes_from
header_size b c h = rw (part_bytes b 0 4 (omega arith), part_bytes b 8 2 (omega arith), part_bytes b 14 2 (omega arith), part_bytes b 20 12 (omega arith)) refl

-- ---- sizes

-- the bases that stay, read from their place on
pub bases_left : (b : List ℕ) (from n : ℕ) → from + n ≤ seq_len_of b → part (bases_of (drop (bases_start b) b)) from n ≡ part (record_bases b) from n
bases_left b from n h =
    let s : List ℕ = drop (bases_start b) b in
    let l : ℕ = seq_len_of b in
    let k : ℕ = (l + 1) / 2 in
    let e : record_bases b ≡ take l (bases_of s) =
    ap (take l) (bases_take k s) ∙ take-take l (2 * k) (bases_of s) (omega arith) in
    sym (ap (λ (x : List ℕ). part x from n) e ∙ part_of_front (bases_of s) from n l h)

module _ (b : List ℕ) (c : Change) (t : tags_start b ≤ length b) (f : c.from + c.len ≤ seq_len_of b) where
  pub name_size : length (new_name b c) ≡ name_len_of b
  name_size = length-take-le (name_len_of b) (drop 32 b) (let z = length-drop 32 b in omega arith)

  pub ops_size : length (new_ops b c) ≡ 4 * length c.ops
  ops_size = length_op_bytes c.ops

  pub bases_size : length (new_bases b c) ≡ (c.len + 1) / 2
  bases_size =
      let bs : List ℕ = bases_of (drop (bases_start b) b) in
      let l : length bs ≡ 2 * (length b - bases_start b) = length_behind b (bases_start b) in
      ap (λ (o : List ℕ). length (packed o)) (sym (bases_left b c.from c.len f)) ∙ packed_size bs c.from c.len (omega arith)

  pub quals_size : length (new_quals b c) ≡ c.len
  quals_size =
      let x : length (quals_part b) ≡ seq_len_of b = length-take-le (seq_len_of b) (drop (quals_start b) b) (let z = length-drop (quals_start b) b in omega arith) in
      length-take-le c.len (drop c.from (quals_part b)) (let z = length-drop c.from (quals_part b) in omega arith)

  pub tags_size : length (new_tags b c) ≡ length b - tags_start b
  tags_size = length-drop (tags_start b) b

  pub front_size : length (new_header b c ++ new_name b c) ≡ 32 + name_len_of b
  front_size =
      let h = header_size b c (omega arith) in
      let n = name_size in
      let l = length-append (new_header b c) (new_name b c) in
      omega arith

  pub tail_size : length (new_bases b c ++ (new_quals b c ++ new_tags b c)) ≡ (c.len + 1) / 2 + (c.len + (length b - tags_start b))
  tail_size =
      let p = bases_size in
      let q = quals_size in
      let r = tags_size in
      let u = length-append (new_bases b c) (new_quals b c ++ new_tags b c) in
      let v = length-append (new_quals b c) (new_tags b c) in
      omega arith

  -- how long the written record is
  pub record_size : length (new_record b c) ≡ 32 + name_len_of b + (4 * length c.ops + ((c.len + 1) / 2 + (c.len + (length b - tags_start b))))
  unfolding new_record
  record_size =
      let z : List ℕ = new_bases b c ++ (new_quals b c ++ new_tags b c) in
      let p = front_size in
      let q = tail_size in
      let r = ops_size in
      let s = length-append (new_header b c) (new_name b c) in
      let u = length-append (new_header b c) (new_name b c ++ (new_ops b c ++ z)) in
      let v = length-append (new_name b c) (new_ops b c ++ z) in
      let w = length-append (new_ops b c) z in
      omega arith
