-- What a head comes to is the same wherever the stream is cut: bytes that are skipped, and numbers that are read.
use Prim.Native.Nat.{ℕ, zero, suc, ◌+◌, ◌-◌, ◌≤◌, ◌<◌}
use mathlib.Core.Path.{◌≡◌, refl, sym, ap, ◌∙◌}
use mathlib.Core.Bool.{Bool, true, false, cond}
use mathlib.Core.List.{List, [], ◌∷◌, ◌++◌, append-nil}
use Rattle.std.specs.List.{starts_with}
use Rattle.std.proofs.Common.{rules}
use native.Mathlib.Omega.{arith}
use lib.Dec.{ltb, eqb}
use lib.ListN.{length, drop, length-append, length-drop}
use lib.Seq.{drop-append-le, drop-drop}
use borrow.Author.Tests.{lt-ltb, le-ltb, ltb-true, ltb-false, eqb-true}
use Rattle.lists.proofs.Absurd.{never}
use Rattle.sam.specs.Record.{le32}
use Rattle.little_endian.proofs.FrontLaws.{front_number}
use Rattle.bam_header.specs.Header.{Head, Head.Records, Head.CutShort, is_bam, past_bytes, past_number, references, counted, texted}
use Rattle.bam_header.specs.Inner.{from_part, from_place, is_records, is_begun, is_ready, behind_number, HeadGone, HeadWent}
use Rattle.bam_header.specs.declared.HeadPart.{HeadPart}
use Rattle.bam_header.specs.declared.HeadPart.TheVariants.{TextSize, Count, Names}
use Rattle.bam_header.specs.declared.HeadPlace.{HeadPlace}
use Rattle.bam_header.specs.declared.Step.{Step}

-- ---- the magic

eqb_comm : (a b : ℕ) → eqb a b ≡ eqb b a
eqb_comm a b = search rules

-- its bytes stand in front
pub starts_bam : (s : List ℕ) → starts_with eqb s (66 ∷ 65 ∷ 77 ∷ 1 ∷ []) ≡ is_bam s
unfolding is_bam
starts_bam [] = refl
starts_bam (a ∷ []) = search rules
starts_bam (a ∷ b ∷ []) = search rules
starts_bam (a ∷ b ∷ c ∷ []) = search rules
starts_bam (a ∷ b ∷ c ∷ d ∷ s) = simp (eqb_comm 66 a, eqb_comm 65 b, eqb_comm 77 c, eqb_comm 1 d, le-ltb (suc (suc (suc (suc (length s))))) 4 (omega arith)) (search rules)

-- ---- bytes that are skipped

pub past_none : (f : List ℕ → Head) (s : List ℕ) → past_bytes 0 f s ≡ f s
unfolding past_bytes
past_none f s = simp (le-ltb (length s) 0 (omega arith))

past_short : (size : ℕ) (f : List ℕ → Head) (s : List ℕ) → length s < size → past_bytes size f s ≡ CutShort
unfolding past_bytes
past_short size f s h = simp (lt-ltb (length s) size h)

pub past_long : (size : ℕ) (f : List ℕ → Head) (s : List ℕ) → size ≤ length s → past_bytes size f s ≡ f (drop size s)
unfolding past_bytes
past_long size f s h = simp (le-ltb (length s) size h)

-- n of them at a time
pub past_some : (size n : ℕ) (f : List ℕ → Head) (s ys : List ℕ) → n ≤ size → n ≤ length s → past_bytes size f (s ++ ys) ≡ past_bytes (size - n) f (drop n s ++ ys)
past_some size n f s ys h k = go (ltb (length s + length ys) size) refl (length-append s ys) (simp (length-append, length-drop))
  where
    same : drop (size - n) (drop n s ++ ys) ≡ drop size (s ++ ys)
    same =
        ap (drop (size - n)) (sym (drop-append-le n s ys k))
        ∙ drop-drop (size - n) n (s ++ ys)
        ∙ ap (λ (i : ℕ). drop i (s ++ ys)) {x = n + (size - n)} {y = size} (omega arith)

    go : (t : Bool) → ltb (length s + length ys) size ≡ t → length (s ++ ys) ≡ length s + length ys → length (drop n s ++ ys) ≡ length s - n + length ys
        → past_bytes size f (s ++ ys) ≡ past_bytes (size - n) f (drop n s ++ ys)
    go true e l m =
        let q = ltb-true (length s + length ys) size e in
        past_short size f (s ++ ys) (omega arith) ∙ sym (past_short (size - n) f (drop n s ++ ys) (omega arith))
    go false e l m =
        let q = ltb-false (length s + length ys) size e in
        past_long size f (s ++ ys) (omega arith) ∙ ap f (sym same) ∙ sym (past_long (size - n) f (drop n s ++ ys) (omega arith))

-- a name, and the length behind it
past_both : (a b : ℕ) (f : List ℕ → Head) (s : List ℕ) → past_bytes a (past_bytes b f) s ≡ past_bytes (a + b) f s
past_both a b f s = go (ltb (length s) a) refl (ltb (length s) (a + b)) refl (length-drop a s)
  where
    go : (t : Bool) → ltb (length s) a ≡ t → (u : Bool) → ltb (length s) (a + b) ≡ u → length (drop a s) ≡ length s - a → past_bytes a (past_bytes b f) s ≡ past_bytes (a + b) f s
    go true e u g l = let q = ltb-true (length s) a e in past_short a (past_bytes b f) s (omega arith) ∙ sym (past_short (a + b) f s (omega arith))
    go false e true g l =
        let q = ltb-false (length s) a e in
        let r = ltb-true (length s) (a + b) g in
        past_long a (past_bytes b f) s (omega arith) ∙ past_short b f (drop a s) (omega arith) ∙ sym (past_short (a + b) f s (omega arith))
    go false e false g l =
        let r = ltb-false (length s) (a + b) g in
        past_long a (past_bytes b f) s (omega arith)
        ∙ past_long b f (drop a s) (omega arith)
        ∙ ap f (drop-drop b a s)
        ∙ sym (past_long (a + b) f s (omega arith))

-- ---- numbers that are read

pub number_in : (f : ℕ → List ℕ → Head) (s ys : List ℕ) → 4 ≤ length s → past_number f (s ++ ys) ≡ f (le32 s 0) (drop 4 s ++ ys)
unfolding past_number
number_in f s ys h =
    let l = length-append s ys in
    simp (le-ltb (length (s ++ ys)) 4 (omega arith)) (ap (λ (k : ℕ). f k (drop 4 (s ++ ys))) (front_number s ys h) ∙ ap (f (le32 s 0)) (drop-append-le 4 s ys h))

number_short : (f : ℕ → List ℕ → Head) (s : List ℕ) → length s < 4 → past_number f s ≡ CutShort
unfolding past_number
number_short f s h = simp (lt-ltb (length s) 4 h)

-- a part that begins with a number leads to the place behind it
pub part_in : (part : HeadPart) (s ys : List ℕ) → is_records part ≡ false → 4 ≤ length s → from_part part (s ++ ys) ≡ from_place (behind_number part (le32 s 0)) (drop 4 s ++ ys)
unfolding references counted texted
part_in TextSize s ys e h = number_in (λ size. past_bytes size counted) s ys h
part_in Count s ys e h = number_in references s ys h ∙ sym (past_none (references (le32 s 0)) (drop 4 s ++ ys))
part_in (Names zero) s ys e h = never (cc)
part_in (Names (suc n)) s ys e h =
    number_in (λ size. past_bytes size (past_bytes 4 (references n))) s ys h
    ∙ past_both (le32 s 0) 4 (references n) (drop 4 s ++ ys)
    ∙ ap (λ (k : ℕ). past_bytes (le32 s 0 + 4) (references k) (drop 4 s ++ ys)) {x = n} {y = suc n - 1} (omega arith)

part_short : (part : HeadPart) (s : List ℕ) → is_records part ≡ false → length s < 4 → from_part part s ≡ CutShort
unfolding references counted texted
part_short TextSize s e h = number_short (λ size. past_bytes size counted) s h
part_short Count s e h = number_short references s h
part_short (Names zero) s e h = never (cc)
part_short (Names (suc n)) s e h = number_short (λ size. past_bytes size (past_bytes 4 (references n))) s h

part_records : (part : HeadPart) (s : List ℕ) → is_records part ≡ true → from_part part s ≡ Records s
unfolding references
part_records TextSize s e = never (cc)
part_records Count s e = never (cc)
part_records (Names zero) s e = refl
part_records (Names (suc n)) s e = absurd (omega (arith, eqb-true (suc n) 0 e))

-- ---- places

pub ready_skip : (p : HeadPlace) (n : ℕ) → is_ready p n ≡ true → 0 < p.skip → 0 < n
ready_skip p n e h = ltb-true 0 n (simp (lt-ltb 0 p.skip h) at e)

pub ready_number : (p : HeadPlace) (n : ℕ) → is_ready p n ≡ true → p.skip ≤ 0 → (is_records p.part ≡ false) × (3 < n)
ready_number p n e h = go (is_records p.part) refl (simp (le-ltb 0 p.skip h) at e)
  where
    go : (t : Bool) → is_records p.part ≡ t → cond t false (ltb 3 n) ≡ true → (is_records p.part ≡ false) × (3 < n)
    go true q f = never (cc)
    go false q f = (q, ltb-true 3 n f)

-- bytes that are not enough to go on
unready : (p : HeadPlace) (s : List ℕ) → is_ready p (length s) ≡ false → is_begun p ≡ false → (length s < 4) × (from_place p s ≡ CutShort)
unready p s e b = go (ltb 0 p.skip) refl e b
  where
    go : (t : Bool) → ltb 0 p.skip ≡ t → cond t (ltb 0 (length s)) (cond (is_records p.part) false (ltb 3 (length s))) ≡ false → cond t false (is_records p.part) ≡ false
        → (length s < 4) × (from_place p s ≡ CutShort)
    go true q f b =
        let h = ltb-false 0 (length s) f in
        let k = ltb-true 0 p.skip q in
        (omega arith, past_short p.skip (from_part p.part) s (omega arith))
    go false q f b =
        let z : p.skip ≡ 0 = omega (arith, ltb-false 0 p.skip q) in
        let h = ltb-false 3 (length s) (simp b at f) in
        (omega arith, ap (λ (k : ℕ). past_bytes k (from_part p.part) s) z ∙ past_none (from_part p.part) s ∙ part_short p.part s b (omega arith))

pub begun_records : (p : HeadPlace) (s : List ℕ) → is_begun p ≡ true → from_place p s ≡ Records s
begun_records p s b = go (ltb 0 p.skip) refl b
  where
    go : (t : Bool) → ltb 0 p.skip ≡ t → cond t false (is_records p.part) ≡ true → from_place p s ≡ Records s
    go true q b = never (cc)
    go false q b =
        let z : p.skip ≡ 0 = omega (arith, ltb-false 0 p.skip q) in
        ap (λ (k : ℕ). past_bytes k (from_part p.part) s) z ∙ past_none (from_part p.part) s ∙ part_records p.part s b

-- ---- blocks

pub gone_turn : (s : List ℕ) (p q : HeadPlace) (used : ℕ) (r : Step) → HeadGone s p (record { used = used; place = q }) → HeadGone (drop used s) q r
    → HeadGone s p (record { used = used + r.used; place = r.place })
gone_turn s p q used r g h =
    let l = length-drop used s in record {
      within = omega (arith, g.within, h.within);
      same = λ ys. g.same ys ∙ h.same ys ∙ ap (λ (l : List ℕ). from_place r.place (l ++ ys)) (drop-drop r.used used s);
    }

pub went : (s : List ℕ) (p : HeadPlace) (r : Step) → HeadGone s p r → is_ready r.place (length s - r.used) ≡ false → HeadWent s p r
went s p r g e = record {
  gone = g;
  begins = λ b ys. g.same ys ∙ begun_records r.place (drop r.used s ++ ys) b;
  short = λ b. omega (arith, (left b).0, length-drop r.used s);
  ends = λ b. all ∙ (left b).1;
}
  where
    left : is_begun r.place ≡ false → (length (drop r.used s) < 4) × (from_place r.place (drop r.used s) ≡ CutShort)
    left b = unready r.place (drop r.used s) (ap (is_ready r.place) (length-drop r.used s) ∙ e) b

    all : from_place p s ≡ from_place r.place (drop r.used s)
    all =
        ap (from_place p) (sym (append-nil s))
        ∙ g.same []
        ∙ ap (from_place r.place) (append-nil (drop r.used s))
