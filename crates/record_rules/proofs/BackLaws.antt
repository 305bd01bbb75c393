-- A record that was clipped and written is a record again, and reads back as promised.
use Prim.Native.Nat.{ℕ, zero, suc, ◌+◌, ◌*◌, ◌%◌, ◌≤◌, ◌<◌}
use Rattle.std.specs.Prelude.{Err, None, Ok, Option, Some}
use Rattle.answers.specs.Answer.{Answer}
use mathlib.Core.Path.{◌≡◌, sym, ap, subst, subst⁻¹, ◌∙◌}
use mathlib.Core.Bool.{Bool, true, false, cond}
use mathlib.Core.List.{List, [], ◌∷◌, ◌++◌}
use native.Mathlib.Omega.{arith}
use borrow.Author.Tests.{le-ltb}
use lib.IntN.{ℤ, pos, negsuc, ◌+ℤ◌, ◌-ℤ◌}
use lib.ListN.{length, get_or, take, drop}
use lib.Seq.{get_or-take, get_or-drop}
use lib.Signed.{lt_z}
use mir.Syntax.{w32}
use mir.Val.{SFits}
use Rattle.lists.specs.Lists.{Each, sum_of}
use Rattle.signed.specs.Whole.{bits32, checked}
use Rattle.signed.proofs.Ranges.{checked_number}
use Rattle.sam.specs.Op.{ref_len}
use Rattle.sam.specs.Record.{name_len_of, seq_len_of, pos_of, quals_start, ops_end, tags_start, uint32, op_bytes}
use Rattle.sam.specs.Bases.{bases_of, packed}
use Rattle.sam.specs.Parts.{part, bases_part, quals_part, record_bases, uint16}
use Rattle.sam.proofs.BaseLaws.{base_below, packed_byte}
use Rattle.oplist.specs.Ops.{record_ops}
use Rattle.length_rules.specs.Lengths.{as_int, checked_ref_length}
use Rattle.bin_rules.specs.Bin.{low16, bin_of, bin_to, reg2bin, span_of, bin_up_to, bin_from, record_bin}
use Rattle.clip_rules.specs.Answer.{clipped_ops}
use Rattle.record_rules.specs.Written.{Change, new_header, new_name, new_ops, new_bases, new_quals, new_tags, new_record}
use Rattle.record_rules.specs.Clipping.{new_len, first_kept, bin_at}
use Rattle.record_rules.specs.Reading.{Bytes, ReadsBack}
use Rattle.record_rules.proofs.ClippedLaws.{clipped_total, small_ops}
use Rattle.record_rules.proofs.FateLaws.{Passed}
use Rattle.record_rules.proofs.ReadLaws.{Holdable, ref_back, mapping_back, flags_back, mate_ref_back, mate_place_back, template_back, place-back, bin_back, count_back, len_back, whole_back, name_back, ops_back, bases_back, half_back, quals_back, tags_back}

-- ---- bytes

bytes_nil : Bytes []
bytes_nil i = omega arith

bytes_append : (p q : List ℕ) → Bytes p → Bytes q → Bytes (p ++ q)
bytes_append [] q v w i = w i
bytes_append (x ∷ p) q v w zero = v 0
bytes_append (x ∷ p) q v w (suc i) = bytes_append p q (λ j. v (suc j)) w i

bytes_drop : (b : List ℕ) (n : ℕ) → Bytes b → Bytes (drop n b)
bytes_drop b n w i = let e = get_or-drop n b i 0 in let h = w (n + i) in omega arith

bytes_take : (n : ℕ) (b : List ℕ) → Bytes b → Bytes (take n b)
bytes_take zero b w i = omega arith
bytes_take (suc n) [] w i = omega arith
bytes_take (suc n) (x ∷ b) w zero = w 0
bytes_take (suc n) (x ∷ b) w (suc i) = bytes_take n b (λ j. w (suc j)) i

bytes_part : (b : List ℕ) (at n : ℕ) → Bytes b → Bytes (part b at n)
bytes_part b at n w = bytes_take n (drop at b) (bytes_drop b at w)

bytes_16 : (n : ℕ) → Bytes (uint16 n)
bytes_16 n zero = omega arith
bytes_16 n (suc zero) = omega arith
bytes_16 n (suc (suc i)) = omega arith

bytes_32 : (n : ℕ) → Bytes (uint32 n)
bytes_32 n zero = omega arith
bytes_32 n (suc zero) = omega arith
bytes_32 n (suc (suc zero)) = omega arith
bytes_32 n (suc (suc (suc zero))) = omega arith
bytes_32 n (suc (suc (suc (suc i)))) = omega arith

bytes_ops : (xs : List ℕ) → Bytes (op_bytes xs)
unfolding op_bytes
bytes_ops [] = bytes_nil
bytes_ops (o ∷ xs) = bytes_append (uint32 o) (op_bytes xs) (bytes_32 o) (bytes_ops xs)

-- bases are below 16, and two make a byte
halves_take : (n : ℕ) (bs : List ℕ) → ((i : ℕ) → get_or bs i 0 < 16) → (i : ℕ) → get_or (take n bs) i 0 < 16
halves_take zero bs w i = omega arith
halves_take (suc n) [] w i = omega arith
halves_take (suc n) (x ∷ bs) w zero = w 0
halves_take (suc n) (x ∷ bs) w (suc i) = halves_take n bs (λ j. w (suc j)) i

halves_drop : (n : ℕ) (bs : List ℕ) → ((i : ℕ) → get_or bs i 0 < 16) → (i : ℕ) → get_or (drop n bs) i 0 < 16
halves_drop n bs w i = let e = get_or-drop n bs i 0 in let h = w (n + i) in omega arith

bytes_packed : (bs : List ℕ) → ((i : ℕ) → get_or bs i 0 < 16) → Bytes (packed bs)
bytes_packed bs w i = let e = packed_byte bs i in let h = w (2 * i) in let l = w (2 * i + 1) in omega arith

bytes_header : (b : List ℕ) (c : Change) → Bytes b → Bytes (new_header b c)
bytes_header b c w =
    let h₇ : List ℕ = uint32 c.len ++ part b 20 12 in
    let h₆ : List ℕ = part b 14 2 ++ h₇ in
    let h₅ : List ℕ = uint16 (length c.ops) ++ h₆ in
    let h₄ : List ℕ = uint16 c.bin ++ h₅ in
    let h₃ : List ℕ = part b 8 2 ++ h₄ in
    let h₂ : List ℕ = uint32 (bits32 c.place) ++ h₃ in
    bytes_append (part b 0 4) h₂ (bytes_part b 0 4 w)
    (bytes_append (uint32 (bits32 c.place)) h₃ (bytes_32 (bits32 c.place))
    (bytes_append (part b 8 2) h₄ (bytes_part b 8 2 w)
    (bytes_append (uint16 c.bin) h₅ (bytes_16 c.bin)
    (bytes_append (uint16 (length c.ops)) h₆ (bytes_16 (length c.ops))
    (bytes_append (part b 14 2) h₇ (bytes_part b 14 2 w) (bytes_append (uint32 c.len) (part b 20 12) (bytes_32 c.len) (bytes_part b 20 12 w)))))))

bytes_bases : (b : List ℕ) (c : Change) → Bytes (new_bases b c)
bytes_bases b c =
    bytes_packed (part (record_bases b) c.from c.len)
    (halves_take c.len (drop c.from (record_bases b)) (halves_drop c.from (record_bases b) (halves_take (seq_len_of b) (bases_of (bases_part b)) (base_below (bases_part b)))))

pub bytes_back : (b : List ℕ) (c : Change) → Bytes b → Bytes (new_record b c)
unfolding new_record
bytes_back b c w =
    let r₅ : List ℕ = new_quals b c ++ new_tags b c in
    let r₄ : List ℕ = new_bases b c ++ r₅ in
    let r₃ : List ℕ = new_ops b c ++ r₄ in
    let r₂ : List ℕ = new_name b c ++ r₃ in
    bytes_append (new_header b c) r₂ (bytes_header b c w)
    (bytes_append (new_name b c) r₃ (bytes_part b 32 (name_len_of b) w)
    (bytes_append (new_ops b c) r₄ (bytes_ops c.ops)
    (bytes_append (new_bases b c) r₅ (bytes_bases b c)
    (bytes_append (new_quals b c) (new_tags b c) (bytes_part (quals_part b) c.from c.len (bytes_part b (quals_start b) (seq_len_of b) w)) (bytes_drop b (tags_start b) w)))))

-- ---- the bin

-- a bin has 16 bits
abbrev Below : Answer ℕ → Type 0
Below (Ok n) = n < 65536
Below (Err r) = Unit {0}

low_below : (z : ℤ) → low16 z < 65536
unfolding low16
low_below (pos n) = omega arith
low_below (negsuc n) = omega arith

to_below : (z : ℤ) (s : Option ℤ) → Below (bin_to z s)
unfolding bin_to
to_below z (Some y) = low_below (bin_of z y)
to_below z None = tt

up_below : (z : ℤ) (s : Option ℤ) → Below (bin_up_to z s)
unfolding bin_up_to reg2bin
up_below z (Some y) = to_below z (checked (y -ℤ pos 1))
up_below z None = tt

from_below : (z : ℤ) (n : Answer ℤ) → Below (bin_from z n)
unfolding bin_from
from_below z (Ok n) = up_below z (checked (z +ℤ span_of n))
from_below z (Err r) = tt

at_below : (z : ℤ) (refs : ℕ) → Below (bin_at z refs)
unfolding bin_at
at_below z refs = go (lt_z z (pos 0))
  where
    go : (t : Bool) → Below (cond t (Ok 4680) (bin_from z (as_int refs)))
    go true = omega arith
    go false = from_below z (as_int refs)

-- a record's bin, where its ops lie within it
bin_is : (b : List ℕ) → 32 ≤ length b → tags_start b ≤ length b → record_bin b ≡ bin_at (pos_of b) (sum_of ref_len (record_ops b))
unfolding record_bin checked_ref_length bin_at
bin_is b l t = simp (le-ltb (length b) 32 l, le-ltb (length b) (ops_end b) (omega arith))

-- ---- a record that passed

module _ (b : List ℕ) (amount : ℕ) (start : Bool) (c : Change) (w : Bytes b) (P : Passed b amount start c) where
  abbrev ys : List ℕ
  ys = clipped_ops (record_ops b) amount start

  from_fits : c.from + c.len ≤ seq_len_of b
  from_fits = go start P.from_is
    where
      go : (t : Bool) → c.from ≡ first_kept b t (new_len b (clipped_ops (record_ops b) amount start)) → c.from + c.len ≤ seq_len_of b
      go true e = omega (arith, P.len_is)
      go false e = omega (arith, P.len_is)

  pub holdable : Holdable b c
  holdable =
      let n = checked_number _ _ P.place_is in
      let t = clipped_total (record_ops b) amount start in
      record {
        bytes = w;
        whole = P.whole;
        within = from_fits;
        few = let e = ap length P.ops_is in omega (arith, P.few);
        ops_small = subst⁻¹ (Each (λ o. o < 4294967296)) P.ops_is (small_ops ys (omega (arith, P.short)));
        place_fits = subst⁻¹ (SFits w32) n.0 n.1;
        bin_small = subst Below P.bin_is (at_below _ _);
      }

  -- base and quality i
  part_of : (s : List ℕ) (i : ℕ) → i < seq_len_of (new_record b c) → get_or (part s c.from c.len) i 0 ≡ get_or s (first_kept b start (seq_len_of (new_record b c)) + i) 0
  part_of s i h =
      let e = len_back b c holdable in
      let f : c.from ≡ first_kept b start (seq_len_of (new_record b c)) = P.from_is ∙ ap (first_kept b start) (sym (e ∙ P.len_is)) in
      get_or-take c.len (drop c.from s) i 0 (omega arith) ∙ get_or-drop c.from s i 0 ∙ ap (λ (k : ℕ). get_or s (k + i) 0) f

  pub reads_back : ReadsBack b amount start (new_record b c) c.count
  reads_back =
      let H = holdable in
      let t = whole_back b c H in
      let l : 32 ≤ length (new_record b c) = omega arith in
      let n = checked_number _ _ P.place_is in
      let p = place-back b c H in
      let o : record_ops (new_record b c) ≡ ys = ops_back b c H ∙ P.ops_is in
      record {
        bytes = bytes_back b c w;
        long = l;
        whole = t;
        ops = o;
        op_count = count_back b c H ∙ ap length P.ops_is;
        len = len_back b c H ∙ P.len_is;
        base = λ i h. ap (λ (s : List ℕ). get_or s i 0) (bases_back b c H) ∙ part_of (record_bases b) i h;
        half = λ h. ap (λ (k : ℕ). get_or (bases_of (bases_part (new_record b c))) k 0) (len_back b c H) ∙ half_back b c H (ap (λ (k : ℕ). k % 2) (sym (len_back b c H)) ∙ h);
        quality = λ i h. ap (λ (s : List ℕ). get_or s i 0) (quals_back b c H) ∙ part_of (quals_part b) i h;
        tags = tags_back b c H;
        name = name_back b c H;
        place = p ∙ n.0 ∙ ap (λ (k : ℕ). pos_of b +ℤ pos k) (sym P.count-is);
        bin =
            bin_is (new_record b c) l t
            ∙ ap (λ (z : ℤ). bin_at z (sum_of ref_len (record_ops (new_record b c)))) p
            ∙ ap (λ (zs : List ℕ). bin_at c.place (sum_of ref_len zs)) o
            ∙ P.bin_is
            ∙ ap Ok (sym (bin_back b c H));
        reference = ref_back b c H;
        mapping = mapping_back b c H;
        flags = flags_back b c H;
        mate_reference = mate_ref_back b c H;
        mate_place = mate_place_back b c H;
        template = template_back b c H;
      }
