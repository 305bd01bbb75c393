-- A header that is as it should be tells how long the parts behind it are.
use Prim.Native.Nat.{ℕ, ◌+◌, ◌/◌, ◌%◌, ◌≤◌, ◌<◌}
use mathlib.Core.Path.{◌≡◌, refl, sym, ap, ◌∙◌}
use mathlib.Core.Bool.{Bool, true, false, ◌&&◌, ◌||◌}
use mathlib.Core.Logic.{◌⊎◌, inl, inr}
use mathlib.Core.List.{List, [], ◌∷◌, ◌++◌, append_assoc}
use native.Mathlib.Omega.{arith}
use borrow.Author.Tests.{eqb-true, eqb-false, eq-eqb, ne_eqb}
use lib.Dec.{eqb}
use lib.ListN.{length, get_or, take, drop, length-drop, length-append}
use lib.Seq.{get_or-take, length-take-le}
use Rattle.lists.specs.Lists.{splice}
use Rattle.lists.proofs.Splices.{splice_front}
use Rattle.signed.specs.Whole.{bits32}
use Rattle.sam.specs.Record.{byte_at, le16, le32, name_len_of, op_count_of, seq_len_of, uint32}
use Rattle.sam.specs.Parts.{part, header_part, uint16}
use Rattle.record_rules.specs.Written.{Change, new_header, new_name, new_ops, new_bases, new_quals, new_tags, new_record}
use Rattle.record_rules.proofs.PartLaws.{bytes_from, part_bytes, header_size}
use Rattle.receive_rules.specs.Receiving.{same, binless, same_header}
use Rattle.receive_rules.proofs.SameLaws.{and_assoc, same_equal, same_parts}
use Rattle.receive_rules.proofs.OpLaws.{number_at}

-- a record's header with four numbers in place of its own
abbrev pub header_with : List ℕ → ℕ → ℕ → ℕ → ℕ → List ℕ
header_with b place bin n len = part b 0 4 ++ (uint32 place ++ (part b 8 2 ++ (uint16 bin ++ (uint16 n ++ (part b 14 2 ++ (uint32 len ++ part b 20 12))))))

-- the lengths of the parts that a header tells
pub record Sizes (g : List ℕ) (name n len : ℕ) : Type 0 where
  pub name_is : name_len_of g ≡ name
  pub count-is : op_count_of g ≡ n
  pub len_is : seq_len_of g ≡ len

module _ (g b : List ℕ) (place bin n len : ℕ) (h : 32 ≤ length b) (e : header_part g ≡ header_with b place bin n len) where
  byte-is : (i x : ℕ) → i < 32 → get_or (header_with b place bin n len) i 0 ≡ x → byte_at g i ≡ x
  byte-is i x k f = sym (get_or-take 32 g i 0 k) ∙ ap (λ (l : List ℕ). get_or l i 0) e ∙ f

  -- the header, byte by byte
  byte_of : (i x : ℕ) → get_or (bytes_from b 0 4 ++ (uint32 place ++ (bytes_from b 8 2 ++ (uint16 bin ++ (uint16 n ++ (bytes_from b 14 2 ++ (uint32 len ++ bytes_from b 20 12))))))) i 0 ≡ x
      → get_or (header_with b place bin n len) i 0 ≡ x
  byte_of i x f =
      rw (part_bytes b 0 4 (omega arith), part_bytes b 8 2 (omega arith), part_bytes b 14 2 (omega arith), part_bytes b 20 12 (omega arith)) f

  pub sizes : n < 65536 → len < 4294967296 → Sizes g (name_len_of b) n len
  unfolding bytes_from
  sizes u v =
      let c₀ = byte-is 12 (n % 256) (omega arith) (byte_of 12 (n % 256) refl) in
      let c₁ = byte-is 13 (n / 256 % 256) (omega arith) (byte_of 13 (n / 256 % 256) refl) in
      let l₀ = byte-is 16 (len % 256) (omega arith) (byte_of 16 (len % 256) refl) in
      let l₁ = byte-is 17 (len / 256 % 256) (omega arith) (byte_of 17 (len / 256 % 256) refl) in
      let l₂ = byte-is 18 (len / 256 / 256 % 256) (omega arith) (byte_of 18 (len / 256 / 256 % 256) refl) in
      let l₃ = byte-is 19 (len / 256 / 256 / 256 % 256) (omega arith) (byte_of 19 (len / 256 / 256 / 256 % 256) refl) in
      record {
        name_is = byte-is 8 (byte_at b 8) (omega arith) (byte_of 8 (byte_at b 8) refl);
        count-is = omega arith;
        len_is = omega arith;
      }

pub or-true : (p q : Bool) → (p || q) ≡ true → (p ≡ true) ⊎ (q ≡ true)
or-true true q h = inl refl
or-true false q h = inr h

pub or_right : (p : Bool) → (p || true) ≡ true
or_right true = refl
or_right false = refl

or-false : (p : Bool) → (p || false) ≡ p
or-false true = refl
or-false false = refl

-- with its bin or with 0
pub header_sizes : (g b : List ℕ) (c : Change) → 32 ≤ length b → length c.ops < 65536 → c.len < 4294967296 → same_header g b c ≡ true
    → Sizes g (name_len_of b) (length c.ops) c.len
header_sizes g b c h u v t = go (or-true (same (header_part g) (new_header b c)) (same (header_part g) (new_header b (binless c))) t)
  where
    go : (same (header_part g) (new_header b c) ≡ true) ⊎ (same (header_part g) (new_header b (binless c)) ≡ true) → Sizes g (name_len_of b) (length c.ops) c.len
    go (inl s) = sizes g b (bits32 c.place) c.bin (length c.ops) c.len h (same_equal (header_part g) (new_header b c) s) u v
    go (inr s) = sizes g b (bits32 c.place) (binless c).bin (length c.ops) c.len h (same_equal (header_part g) (new_header b (binless c)) s) u v

-- ---- the tests of a header

-- a number of 16 bits at a place of g
number16_at : (g : List ℕ) → ((i : ℕ) → get_or g i 0 < 256) → (i n : ℕ) → i + 2 ≤ length g → same (take 2 (drop i g)) (uint16 n) ≡ eqb (le16 g i) (n % 65536)
unfolding bytes_from same
number16_at g w i n h =
    let w₀ = w i in let w₁ = w (i + 1) in
    ap (λ (l : List ℕ). same l (uint16 n)) (part_bytes g i 2 h) ∙ go (eqb (le16 g i) (n % 65536)) refl
  where
    go : (t : Bool) → eqb (le16 g i) (n % 65536) ≡ t → same (bytes_from g i 2) (uint16 n) ≡ t
    go true e =
        let w₀ = w i in let w₁ = w (i + 1) in let z = eqb-true (le16 g i) (n % 65536) e in
        simp (eq-eqb (byte_at g i) (n % 256) (omega arith), eq-eqb (byte_at g (i + 1)) (n / 256 % 256) (omega arith))
    go false e = two (eqb (byte_at g i) (n % 256)) refl (eqb (byte_at g (i + 1)) (n / 256 % 256)) refl
      where
        two : (u : Bool) → eqb (byte_at g i) (n % 256) ≡ u → (v : Bool) → eqb (byte_at g (i + 1)) (n / 256 % 256) ≡ v → (u && (v && true)) ≡ false
        two true a true b =
            let x = eqb-true (byte_at g i) (n % 256) a in let y = eqb-true (byte_at g (i + 1)) (n / 256 % 256) b in
            absurd (eqb-false (le16 g i) (n % 65536) e (omega arith))
        two true a false b = refl
        two false a v b = refl

module _ (g b : List ℕ) (w : (i : ℕ) → get_or g i 0 < 256) (h : 32 ≤ length g) (k : 32 ≤ length b) where
  pub front_is : (place : ℕ) → place < 4294967296
      → ((same (take 4 (drop 0 g)) (take 4 (drop 0 b)) && eqb (le32 g 4) place) && same (take 2 (drop 8 g)) (take 2 (drop 8 b)))
      ≡ same (part g 0 10) (part b 0 4 ++ (uint32 place ++ part b 8 2))
  front_is place u =
      sym (and_assoc (same (take 4 (drop 0 g)) (take 4 (drop 0 b))) (eqb (le32 g 4) place) (same (take 2 (drop 8 g)) (take 2 (drop 8 b))))
      ∙ sym
      (same_parts g 0 4 6 (part b 0 4) (uint32 place ++ part b 8 2) (length-take-le 4 b (omega arith)) (omega arith)
      ∙ ap (λ (t : Bool). same (take 4 (drop 0 g)) (take 4 (drop 0 b)) && t)
      (same_parts g 4 4 2 (uint32 place) (part b 8 2) refl (omega arith)
      ∙ ap (λ (t : Bool). t && same (take 2 (drop 8 g)) (take 2 (drop 8 b))) (number_at g w 4 place u (omega arith))))

  pub back_is : (n len : ℕ) → n < 65536 → len < 4294967296
      → (((eqb (le16 g 12) n && same (take 2 (drop 14 g)) (take 2 (drop 14 b))) && eqb (le32 g 16) len) && same (take 12 (drop 20 g)) (take 12 (drop 20 b)))
      ≡ same (part g 12 20) (uint16 n ++ (part b 14 2 ++ (uint32 len ++ part b 20 12)))
  back_is n len u v =
      let d = length-drop 14 b in
      let count : Bool = eqb (le16 g 12) n in
      let flags : Bool = same (take 2 (drop 14 g)) (take 2 (drop 14 b)) in
      let bases : Bool = eqb (le32 g 16) len in
      let mate : Bool = same (take 12 (drop 20 g)) (take 12 (drop 20 b)) in
      sym (and_assoc count flags (bases && mate) ∙ and_assoc (count && flags) bases mate)
      ∙ sym
      (same_parts g 12 2 18 (uint16 n) (part b 14 2 ++ (uint32 len ++ part b 20 12)) refl (omega arith)
      ∙ ap (λ (t : Bool). t && same (part g 14 18) (part b 14 2 ++ (uint32 len ++ part b 20 12)))
      (number16_at g w 12 n (omega arith) ∙ ap (eqb (le16 g 12)) {x = n % 65536} {y = n} (omega arith))
      ∙ ap (λ (t : Bool). eqb (le16 g 12) n && t)
      (same_parts g 14 2 16 (part b 14 2) (uint32 len ++ part b 20 12) (length-take-le 2 (drop 14 b) (omega arith)) (omega arith)
      ∙ ap (λ (t : Bool). same (take 2 (drop 14 g)) (take 2 (drop 14 b)) && t)
      (same_parts g 16 4 12 (uint32 len) (part b 20 12) refl (omega arith)
      ∙ ap (λ (t : Bool). t && same (take 12 (drop 20 g)) (take 12 (drop 20 b))) (number_at g w 16 len v (omega arith)))))

  -- 0, or the bin
  pub no_bin : (bin s : ℕ) → s ≡ le16 g 10 → s ≡ 0 → true ≡ (same (part g 10 2) (uint16 bin) || same (part g 10 2) (uint16 0))
  no_bin bin s e f = sym
      (ap (λ (t : Bool). same (part g 10 2) (uint16 bin) || t) (number16_at g w 10 0 (omega arith) ∙ eq-eqb (le16 g 10) 0 (sym e ∙ f)) ∙ or_right (same (part g 10 2) (uint16 bin)))

  pub a_bin : (bin s : ℕ) → s ≡ le16 g 10 → (s ≡ 0 → ⊥) → eqb s (bin % 65536) ≡ (same (part g 10 2) (uint16 bin) || same (part g 10 2) (uint16 0))
  a_bin bin s e f = sym
      (ap (λ (t : Bool). same (part g 10 2) (uint16 bin) || t) (number16_at g w 10 0 (omega arith) ∙ ne_eqb (le16 g 10) 0 (λ z. f (e ∙ z)))
      ∙ or-false (same (part g 10 2) (uint16 bin))
      ∙ number16_at g w 10 bin (omega arith)
      ∙ ap (λ (m : ℕ). eqb m (bin % 65536)) (sym e))

  -- front, bin and back are the header
  header_parts : (place bin n len : ℕ)
      → same (header_part g) (header_with b place bin n len)
      ≡ (same (part g 0 10) (part b 0 4 ++ (uint32 place ++ part b 8 2))
      && (same (part g 10 2) (uint16 bin) && same (part g 12 20) (uint16 n ++ (part b 14 2 ++ (uint32 len ++ part b 20 12)))))
  header_parts place bin n len =
      let front : List ℕ = part b 0 4 ++ (uint32 place ++ part b 8 2) in
      let back : List ℕ = uint16 n ++ (part b 14 2 ++ (uint32 len ++ part b 20 12)) in
      let x = length-take-le 4 b (omega arith) in
      let y = length-drop 8 b in
      let z = length-take-le 2 (drop 8 b) (omega arith) in
      let l : length front ≡ 10 = let i = length-append (part b 0 4) (uint32 place ++ part b 8 2) in let j = length-append (uint32 place) (part b 8 2) in omega arith in
      ap (same (header_part g)) (sym (append_assoc (part b 0 4) (uint32 place ++ part b 8 2) (uint16 bin ++ back) ∙ ap (λ (s : List ℕ). part b 0 4 ++ s) (append_assoc (uint32 place) (part b 8 2) (uint16 bin ++ back))))
      ∙ same_parts g 0 10 22 front (uint16 bin ++ back) l (omega arith)
      ∙ ap (λ (t : Bool). same (part g 0 10) front && t) (same_parts g 10 2 20 (uint16 bin) back refl (omega arith))

  -- of one bin or another
  pub whole_header : (c : Change) (place bin n len : ℕ) → place ≡ bits32 c.place → bin ≡ c.bin → n ≡ length c.ops → len ≡ c.len
      → ((same (part g 0 10) (part b 0 4 ++ (uint32 place ++ part b 8 2))
      && (same (part g 10 2) (uint16 bin) || same (part g 10 2) (uint16 0)))
      && same (part g 12 20) (uint16 n ++ (part b 14 2 ++ (uint32 len ++ part b 20 12))))
      ≡ same_header g b c
  whole_header c place bin n len e₁ e₂ e₃ e₄ =
      let F : Bool = same (part g 0 10) (part b 0 4 ++ (uint32 (bits32 c.place) ++ part b 8 2)) in
      let X : Bool = same (part g 10 2) (uint16 c.bin) in
      let O : Bool = same (part g 10 2) (uint16 0) in
      let R : Bool = same (part g 12 20) (uint16 (length c.ops) ++ (part b 14 2 ++ (uint32 c.len ++ part b 20 12))) in
      rw (e₁, e₂, e₃, e₄)
      (sym
      (ap (λ (t : Bool). t || same (header_part g) (new_header b (binless c))) (header_parts (bits32 c.place) c.bin (length c.ops) c.len)
      ∙ ap (λ (t : Bool). (F && (X && R)) || t) (header_parts (bits32 c.place) 0 (length c.ops) c.len)
      ∙ shared F X O R))
    where
      shared : (f x y r : Bool) → ((f && (x && r)) || (f && (y && r))) ≡ ((f && (x || y)) && r)
      shared true true y true = refl
      shared true true true false = refl
      shared true true false false = refl
      shared true false y r = refl
      shared false x y r = refl

-- ---- the written record

-- both bytes of the bin set to 0
cleared : (b : List ℕ) (c : Change) → 32 ≤ length b → splice (new_header b c) 10 (0 ∷ 0 ∷ []) ≡ new_header b (binless c)
unfolding splice bytes_from
cleared b c h = rw (part_bytes b 0 4 (omega arith), part_bytes b 8 2 (omega arith), part_bytes b 14 2 (omega arith), part_bytes b 20 12 (omega arith)) refl

pub bin_cleared : (b : List ℕ) (c : Change) → 32 ≤ length b → splice (new_record b c) 10 (0 ∷ 0 ∷ []) ≡ new_record b (binless c)
unfolding new_record
bin_cleared b c h =
    let rest : List ℕ = new_name b c ++ (new_ops b c ++ (new_bases b c ++ (new_quals b c ++ new_tags b c))) in
    splice_front (new_header b c) rest 10 (0 ∷ 0 ∷ []) (let l = header_size b c h in omega arith) ∙ ap (λ (l : List ℕ). l ++ rest) (cleared b c h)
