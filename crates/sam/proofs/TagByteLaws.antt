-- Tags that can be written are read back, whatever follows them; and an area that is read to its end is its tags, byte for byte.
use Prim.Native.Nat.{ℕ, zero, suc, ◌+◌, ◌-◌, ◌*◌, ◌<◌}
use mathlib.Core.Path.{◌≡◌, refl, sym, ap, ◌∙◌}
use mathlib.Core.Bool.{Bool, true, false, cond}
use mathlib.Core.List.{List, [], ◌∷◌, ◌++◌, append_assoc, append-nil}
use native.Mathlib.Omega.{arith}
use lib.Dec.{eqb}
use lib.ListN.{length, take, drop, length-append, take-append-drop}
use lib.Seq.{take_at, drop_at}
use borrow.Author.Tests.{ne_eqb, eqb-true, eqb-false}
use Rattle.lists.specs.Lists.{Each}
use Rattle.lists.proofs.Absurd.{never, false_true}
use Rattle.sam.specs.Record.{le32, uint32}
use Rattle.sam.specs.Tags.{among, number_size, to_nul, array_size, value_size, tag_size, Tag, tag_at, Ends, Breaks, Then, tags_behind, tags_of}
use Rattle.sam.specs.TagBytes.{NoNul, Proper, character, number, text, array, bytes_of, all_bytes, followed}
use Rattle.sam.proofs.TagLaws.{array_is, tag_is, whole, tags_then, tags_end}

-- ---- values

no_number : (number_size 65 ≡ 0) × (number_size 90 ≡ 0) × (number_size 72 ≡ 0) × (number_size 66 ≡ 0)
unfolding number_size
no_number = (refl, refl, refl, refl)

unlike : (k m : ℕ) → 0 < number_size k → number_size m ≡ 0 → eqb k m ≡ false
unlike k m h z = ne_eqb k m (λ e. let y : number_size k ≡ 0 = ap number_size e ∙ z in omega arith)

number_value : (k : ℕ) (s : List ℕ) → 0 < number_size k → value_size k s ≡ number_size k
unfolding value_size
number_value k s h =
    simp (unlike k 65 h no_number.0, unlike k 90 h no_number.1, unlike k 72 h no_number.2, unlike k 66 h no_number.3)

text_value : (k : ℕ) (s : List ℕ) → among k (90 ∷ 72 ∷ []) ≡ true → value_size k s ≡ to_nul s
unfolding value_size
text_value k s h = go (eqb k 90) refl (eqb k 72) refl h
  where
    go : (t : Bool) → eqb k 90 ≡ t → (u : Bool) → eqb k 72 ≡ u → cond t true (cond u true false) ≡ true → value_size k s ≡ to_nul s
    go true p u q g = ap (λ (j : ℕ). value_size j s) (eqb-true k 90 p)
    go false p true q g = ap (λ (j : ℕ). value_size j s) (eqb-true k 72 q)
    go false p false q g = false_true g

nul_of : (t s : List ℕ) → NoNul t → to_nul ((t ++ (0 ∷ [])) ++ s) ≡ length (t ++ (0 ∷ []))
unfolding to_nul
nul_of [] s h = refl
nul_of (x ∷ t) s h = let e = nul_of t s h.1 in simp (ne_eqb x 0 h.0) (omega arith)

array_of : (k n : ℕ) (xs s : List ℕ) → 0 < number_size k → n < 4294967296 → length xs ≡ number_size k * n
    → array_size ((k ∷ (uint32 n ++ xs)) ++ s) ≡ length (k ∷ (uint32 n ++ xs))
array_of k n xs s h f e =
    let w = (k ∷ (uint32 n ++ xs)) ++ s in
    let m : le32 w 1 ≡ n = omega arith in
    let l : 5 + length xs ≡ length (k ∷ (uint32 n ++ xs)) = omega arith in
    array_is w (omega arith) (λ z. omega arith) ∙ ap (λ (j : ℕ). 5 + number_size k * j) m ∙ ap (λ (j : ℕ). 5 + j) (sym e) ∙ l

value_of : (t : Tag) (s : List ℕ) → Proper t → value_size t.kind (t.value ++ s) ≡ length t.value
unfolding value_size
value_of t s (character e l) = ap (λ (k : ℕ). value_size k (t.value ++ s)) e ∙ sym l
value_of t s (number e h) = number_value t.kind (t.value ++ s) (omega arith) ∙ e
value_of t s (text u e n v) =
    text_value t.kind (t.value ++ s) e
    ∙ ap (λ (l : List ℕ). to_nul (l ++ s)) v
    ∙ nul_of u s n
    ∙ ap length (sym v)
value_of t s (array k n xs e h f l v) =
    ap (λ (j : ℕ). value_size j (t.value ++ s)) e
    ∙ ap (λ (l : List ℕ). array_size (l ++ s)) v
    ∙ array_of k n xs s h f l
    ∙ ap length (sym v)

some-value : (t : Tag) → Proper t → 0 < length t.value
some-value t (character e l) = omega arith
some-value t (number e h) = h
some-value t (text u e n v) = let a = ap length v ∙ length-append u (0 ∷ []) in omega arith
some-value t (array k n xs e h f l v) = let a = ap length v in omega arith

-- ---- tags

module _ (t : Tag) (s : List ℕ) (h : Proper t) where
  size_of : tag_size (bytes_of t ++ s) ≡ 3 + length t.value
  size_of =
      let v = value_of t s h in
      let p = some-value t h in
      let l = length-append t.value s in
      tag_is (bytes_of t ++ s) (λ z. omega arith) (omega arith) ∙ ap (λ (k : ℕ). 3 + k) v

  tag_of : tag_at (bytes_of t ++ s) ≡ t
  unfolding tag_at
  tag_of =
      let e : tag_size (bytes_of t ++ s) - 3 ≡ length t.value = omega (arith, size_of) in
      ap (λ (v : List ℕ). record { first = t.first; second = t.second; kind = t.kind; value = v })
      (ap (λ (k : ℕ). take k (t.value ++ s)) e ∙ take_at t.value s (length t.value) refl)

  pub reads_tag : tags_of (bytes_of t ++ s) ≡ Then t (tags_of s)
  reads_tag =
      let p = size_of in
      tags_then (bytes_of t ++ s) (omega arith)
      ∙ ap (λ (x : Tag). Then x (tags_of (drop (tag_size (bytes_of t ++ s)) (bytes_of t ++ s)))) tag_of
      ∙ ap (λ (l : List ℕ). Then t (tags_of l)) (drop_at (bytes_of t) s (tag_size (bytes_of t ++ s)) (omega arith))

pub reads_tags : (ts : List Tag) (s : List ℕ) → Each Proper ts → tags_of (all_bytes ts ++ s) ≡ followed ts (tags_of s)
unfolding all_bytes followed
reads_tags [] s h = refl
reads_tags (t ∷ ts) s h =
    ap tags_of (append_assoc (bytes_of t) (all_bytes ts) s)
    ∙ reads_tag t (all_bytes ts ++ s) h.0
    ∙ ap (Then t) (reads_tags ts s h.1)

-- an area of tags alone
pub read_back : (ts : List Tag) → Each Proper ts → tags_of (all_bytes ts) ≡ followed ts Ends
read_back ts h = ap tags_of (sym (append-nil (all_bytes ts))) ∙ reads_tags ts [] h ∙ ap (followed ts) (tags_end [] (omega arith))

-- ---- and the other way round

front_is : (s : List ℕ) → 0 < tag_size s → bytes_of (tag_at s) ++ drop (tag_size s) s ≡ s
unfolding tag_at
front_is [] h = let w = whole [] h in absurd (omega arith)
front_is (x ∷ []) h = let w = whole (x ∷ []) h in absurd (omega arith)
front_is (x ∷ y ∷ []) h = let w = whole (x ∷ y ∷ []) h in absurd (omega arith)
front_is (x ∷ y ∷ z ∷ s) h =
    let n = tag_size (x ∷ y ∷ z ∷ s) in
    let w = whole (x ∷ y ∷ z ∷ s) h in
    let e : n ≡ suc (suc (suc (n - 3))) = omega arith in
    ap (λ (l : List ℕ). x ∷ y ∷ z ∷ (take (n - 3) s ++ l)) (ap (λ (k : ℕ). drop k (x ∷ y ∷ z ∷ s)) e)
    ∙ ap (λ (l : List ℕ). x ∷ y ∷ z ∷ l) (take-append-drop (n - 3) s)

all_read : (n : ℕ) (s : List ℕ) (ts : List Tag) → tags_behind n s ≡ followed ts Ends → drop n s ≡ all_bytes ts
unfolding tags_behind followed all_bytes
all_read zero [] [] e = refl
all_read (suc n) [] [] e = refl
all_read n [] (t ∷ ts) e = never (cc)
all_read (suc n) (x ∷ s) ts e = all_read n s ts e
all_read zero (x ∷ s) ts e = go ts (eqb (tag_size (x ∷ s)) 0) refl e (all_read (tag_size (x ∷ s) - 1) s)
  where
    go : (us : List Tag) (t : Bool) → eqb (tag_size (x ∷ s)) 0 ≡ t → cond t Breaks (Then (tag_at (x ∷ s)) (tags_behind (tag_size (x ∷ s) - 1) s)) ≡ followed us Ends
        → ((vs : List Tag) → tags_behind (tag_size (x ∷ s) - 1) s ≡ followed vs Ends → drop (tag_size (x ∷ s) - 1) s ≡ all_bytes vs) → x ∷ s ≡ all_bytes us
    go [] true p f i = never (cc)
    go [] false p f i = never (cc)
    go (u ∷ us) true p f i = never (cc)
    go (u ∷ us) false p f i =
        let q = eqb-false (tag_size (x ∷ s)) 0 p in
        let n = tag_size (x ∷ s) in
        let m : n ≡ suc (n - 1) = omega arith in
        let a : tag_at (x ∷ s) ≡ u = cc in
        let r : tags_behind (n - 1) s ≡ followed us Ends = cc in
        sym (front_is (x ∷ s) (omega arith))
        ∙ ap (λ (t : Tag). bytes_of t ++ drop n (x ∷ s)) a
        ∙ ap (λ (l : List ℕ). bytes_of u ++ l) (ap (λ (k : ℕ). drop k (x ∷ s)) m ∙ i us r)

pub written_back : (s : List ℕ) (ts : List Tag) → tags_of s ≡ followed ts Ends → s ≡ all_bytes ts
written_back s ts e = all_read 0 s ts e
