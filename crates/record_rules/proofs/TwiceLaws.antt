-- Clipping by a and then by b, through two written records: the second record is b's.
use Prim.Native.Nat.{ℕ, ◌+◌, ◌-◌, ◌≤◌}
use Rattle.std.specs.Prelude.{Some}
use mathlib.Core.Path.{◌≡◌, refl, sym, ap, ◌∙◌}
use mathlib.Core.Bool.{Bool, true, false, cond, not, ◌&&◌}
use mathlib.Core.List.{List, ◌++◌}
use native.Mathlib.Omega.{arith}
use borrow.Author.Tests.{eqb-true, eqb-false, eq-eqb}
use lib.Dec.{eqb}
use lib.IntN.{ℤ, pos, ◌+ℤ◌}
use lib.ListN.{length, take, drop}
use lib.Seq.{drop-drop}
use Rattle.lists.specs.Lists.{sum_of}
use Rattle.lists.proofs.Absurd.{false_true}
use Rattle.lists.proofs.Splices.{part_of_front}
use Rattle.signed.specs.Whole.{checked}
use Rattle.signed.proofs.Halves.{plus, same}
use Rattle.signed.proofs.Ranges.{checked_number}
use Rattle.sam.specs.Op.{len_of, ref_len, query_len}
use Rattle.sam.specs.Record.{seq_len_of, pos_of, op_bytes}
use Rattle.sam.specs.Bases.{packed}
use Rattle.sam.specs.Parts.{part, name_part, quals_part, record_bases}
use Rattle.oplist.specs.Ops.{record_ops}
use Rattle.clip_rules.specs.Answer.{clipped_ops, clipped_count, is_beyond}
use Rattle.record_rules.specs.Written.{Change, new_header, new_name, new_ops, new_bases, new_quals, new_tags, new_record}
use Rattle.record_rules.specs.Clipping.{differs, new_len, first_kept, start_count, Becomes, clipped_fate}
use Rattle.record_rules.specs.Reading.{Bytes}
use Rattle.record_rules.proofs.PlanLaws.{within-is, counted_is, placed_is, binned_is}
use Rattle.record_rules.proofs.ClippedLaws.{clipped_total, clipped_query}
use Rattle.record_rules.proofs.FateLaws.{Passed}
use Rattle.record_rules.proofs.ReadLaws.{Holdable, first_stays, second_stays, third_stays, last_stays, place-back, len_back, whole_back, name_back, ops_back, bases_back, quals_back, tags_back}
use Rattle.record_rules.proofs.BackLaws.{holdable}

-- a part of a part
part-part : (s : List ℕ) (m n k l : ℕ) → k + l ≤ n → part (part s m n) k l ≡ part s (m + k) l
part-part s m n k l h = part_of_front (drop m s) k l n h ∙ ap (take l) (drop-drop k m s)

-- a position that is moved twice
moved_twice : (z : ℤ) (m n : ℕ) → (z +ℤ pos m) +ℤ pos n ≡ z +ℤ pos (m + n)
moved_twice z m n = same _ _ (omega (arith, plus z (pos m), plus (z +ℤ pos m) (pos n), plus z (pos (m + n))))

-- 15 of what is left
agrees_again : (len query left : ℕ) → differs len query ≡ false → left ≤ query → (differs (len - (query - left)) left ≡ false) × ((len ≡ 0 → ⊥) → query ≡ len)
unfolding differs
agrees_again len query left e h = go (eqb len 0) refl (eqb query len) refl e
  where
    go : (i : Bool) → eqb len 0 ≡ i → (j : Bool) → eqb query len ≡ j → not i && not j ≡ false
        → (not (eqb (len - (query - left)) 0) && not (eqb left (len - (query - left))) ≡ false) × ((len ≡ 0 → ⊥) → query ≡ len)
    go true i j k e =
        let z = eqb-true len 0 i in
        (simp (eq-eqb (len - (query - left)) 0 (omega arith)), λ n. absurd (n z))
    go false i true k e =
        let q = eqb-true query len k in
        (simp (eq-eqb left (len - (query - left)) (omega arith)) (and-false (not (eqb (len - (query - left)) 0))), λ n. q)
      where
        and-false : (t : Bool) → t && false ≡ false
        and-false true = refl
        and-false false = refl
    go false i false k e = false_true (sym e)

-- where what stays begins, at the start
first_places : (len len_r l₁ l₂ f₁ f₂ : ℕ) → l₁ ≤ len → l₂ ≤ l₁ → len_r ≡ l₁ → f₁ ≡ len - l₁ → f₂ ≡ len - l₂ → (f₁ + (len_r - l₂) ≡ f₂) × (len_r - l₂ + l₂ ≤ l₁)
first_places len len_r l₁ l₂ f₁ f₂ h k e p q = (omega arith, omega arith)

-- a header is made of these
header_of : (r b : List ℕ) (c d : Change) → part r 0 4 ≡ part b 0 4 → part r 8 2 ≡ part b 8 2 → part r 14 2 ≡ part b 14 2 → part r 20 12 ≡ part b 20 12
    → c.place ≡ d.place → c.bin ≡ d.bin → length c.ops ≡ length d.ops → c.len ≡ d.len → new_header r c ≡ new_header b d
header_of r b c d e₁ e₂ e₃ e₄ f₁ f₂ f₃ f₄ = rw (e₁, e₂, e₃, e₄, f₁, f₂, f₃, f₄) refl

module _ (b : List ℕ) (a a' : ℕ) (start : Bool) (c₁ c₂ : Change) (w : Bytes b) (P : Passed b a start c₁) (Q : Passed b a' start c₂)
    (twice-ops : clipped_ops (clipped_ops (record_ops b) a start) a' start ≡ clipped_ops (record_ops b) a' start)
    (twice-count : clipped_count (record_ops b) a start + clipped_count (clipped_ops (record_ops b) a start) a' start ≡ clipped_count (record_ops b) a' start)
    (not_beyond : is_beyond (clipped_ops (record_ops b) a start) a' start ≡ false) where
  abbrev ys : List ℕ
  ys = clipped_ops (record_ops b) a start

  abbrev zs : List ℕ
  zs = clipped_ops (record_ops b) a' start

  abbrev r : List ℕ
  r = new_record b c₁

  H : Holdable b c₁
  H = holdable b a start c₁ w P

  ops_r : record_ops r ≡ ys
  ops_r = ops_back b c₁ H ∙ P.ops_is

  ops_then : clipped_ops (record_ops r) a' start ≡ zs
  ops_then = ap (λ (l : List ℕ). clipped_ops l a' start) ops_r ∙ twice-ops

  -- the change from the first record to the second
  pub further : Change
  further = record { ops = zs; place = c₂.place; bin = c₂.bin; len = c₂.len; from = first_kept r start c₂.len; count = start_count ys a' start }

  counts : start_count (record_ops b) a start + start_count ys a' start ≡ start_count (record_ops b) a' start
  counts = go start twice-count
    where
      go : (t : Bool) → clipped_count (record_ops b) a start + clipped_count ys a' start ≡ clipped_count (record_ops b) a' start
          → cond t (clipped_count (record_ops b) a start) 0 + cond t (clipped_count ys a' start) 0 ≡ cond t (clipped_count (record_ops b) a' start) 0
      go true e = e
      go false e = refl

  pub counts_add : c₁.count + further.count ≡ c₂.count
  unfolding further
  counts_add = let p = P.count-is in let q = Q.count-is in let e = counts in omega arith

  place_then : checked (pos_of r +ℤ pos (start_count ys a' start)) ≡ Some c₂.place
  place_then =
      ap (λ (z : ℤ). checked (z +ℤ pos (start_count ys a' start))) (place-back b c₁ H ∙ (checked_number _ _ P.place_is).0)
      ∙ ap checked (moved_twice (pos_of b) (start_count (record_ops b) a start) (start_count ys a' start) ∙ ap (λ (n : ℕ). pos_of b +ℤ pos n) counts)
      ∙ Q.place_is

  -- l_seq after a, and after b
  len_r : seq_len_of r ≡ new_len b ys
  len_r = len_back b c₁ H ∙ P.len_is

  again : (differs (new_len b ys) (sum_of query_len ys) ≡ false) × ((seq_len_of b ≡ 0 → ⊥) → sum_of query_len (record_ops b) ≡ seq_len_of b)
  again = agrees_again (seq_len_of b) (sum_of query_len (record_ops b)) (sum_of query_len ys) P.agrees (clipped_query (record_ops b) a start)

  len_then : c₂.len ≡ new_len r (clipped_ops (record_ops r) a' start)
  len_then = go (eqb (seq_len_of b) 0) refl
    where
      go : (t : Bool) → eqb (seq_len_of b) 0 ≡ t → c₂.len ≡ new_len r (clipped_ops (record_ops r) a' start)
      go t e =
          let p = clipped_query (record_ops b) a start in
          let q = clipped_query ys a' start in
          let s = ap (sum_of query_len) twice-ops in
          let u = ap (sum_of query_len) ops_r in
          let v = ap (sum_of query_len) ops_then in
          let l = len_r in
          let m = Q.len_is in
          cases t e p q s u v l m
        where
          cases : (t : Bool) → eqb (seq_len_of b) 0 ≡ t
              → sum_of query_len ys ≤ sum_of query_len (record_ops b) → sum_of query_len (clipped_ops ys a' start) ≤ sum_of query_len ys
              → sum_of query_len (clipped_ops ys a' start) ≡ sum_of query_len zs → sum_of query_len (record_ops r) ≡ sum_of query_len ys
              → sum_of query_len (clipped_ops (record_ops r) a' start) ≡ sum_of query_len zs → seq_len_of r ≡ new_len b ys → c₂.len ≡ new_len b zs
              → c₂.len ≡ new_len r (clipped_ops (record_ops r) a' start)
          cases true e p q s u v l m = let z = eqb-true (seq_len_of b) 0 e in omega arith
          cases false e p q s u v l m = let z = again.1 (eqb-false (seq_len_of b) 0 e) in omega arith

  pub fate_then : clipped_fate r a' start ≡ Becomes further
  unfolding further
  fate_then =
      let t = whole_back b c₁ H in
      let s = clipped_total (record_ops b) a start in
      let o = ap (sum_of len_of) ops_r in
      let n = ap length ops_then in
      let k : start_count (record_ops r) a' start ≡ start_count ys a' start = ap (λ (l : List ℕ). start_count l a' start) ops_r in
      within-is r a' start (omega arith) t (omega (arith, P.short)) (ap (λ (l : List ℕ). is_beyond l a' start) ops_r ∙ not_beyond)
      ∙ counted_is r (clipped_ops (record_ops r) a' start) start (start_count (record_ops r) a' start) differs-not (omega (arith, Q.few))
      ∙ placed_is r (clipped_ops (record_ops r) a' start) start (start_count (record_ops r) a' start) _ c₂.place (sum_of ref_len zs)
      (ap (λ (m : ℕ). checked (pos_of r +ℤ pos m)) k ∙ place_then) (ap (sum_of ref_len) (sym ops_then))
      ∙ binned_is r (clipped_ops (record_ops r) a' start) start (start_count (record_ops r) a' start) c₂.place _ c₂.place c₂.bin c₂.len _ refl Q.bin_is len_then refl
      ∙ ap Becomes (ap (λ (l : List ℕ). record { ops = l; place = c₂.place; bin = c₂.bin; len = c₂.len; from = first_kept r start c₂.len; count = start_count (record_ops r) a' start }) ops_then
      ∙ ap (λ (m : ℕ). record { ops = zs; place = c₂.place; bin = c₂.bin; len = c₂.len; from = first_kept r start c₂.len; count = m }) k)
    where
      differs-not : differs (seq_len_of r) (sum_of query_len (record_ops r)) ≡ false
      differs-not = ap (λ (m : ℕ). differs m (sum_of query_len (record_ops r))) len_r ∙ ap (λ (l : List ℕ). differs (new_len b ys) (sum_of query_len l)) ops_r ∙ again.0

  -- ---- the second record is b's

  shorter : c₂.len ≤ c₁.len
  shorter =
      let p = len_then in
      let l = len_back b c₁ H in
      omega arith

  places : (c₁.from + first_kept r start c₂.len ≡ c₂.from) × (first_kept r start c₂.len + c₂.len ≤ c₁.len)
  places = go start (P.from_is ∙ ap (first_kept b start) (sym P.len_is)) (Q.from_is ∙ ap (first_kept b start) (sym Q.len_is))
    where
      go : (t : Bool) → c₁.from ≡ first_kept b t c₁.len → c₂.from ≡ first_kept b t c₂.len
          → (c₁.from + first_kept r t c₂.len ≡ c₂.from) × (first_kept r t c₂.len + c₂.len ≤ c₁.len)
      go true e f = first_places (seq_len_of b) (seq_len_of r) c₁.len c₂.len c₁.from c₂.from (omega (arith, H.within)) shorter (len_back b c₁ H) e f
      go false e f = let s = shorter in (omega arith, omega arith)

  kept_part : (s : List ℕ) → part (part s c₁.from c₁.len) (first_kept r start c₂.len) c₂.len ≡ part s c₂.from c₂.len
  kept_part s = part-part s c₁.from c₁.len (first_kept r start c₂.len) c₂.len places.1 ∙ ap (λ (m : ℕ). part s m c₂.len) places.0

  same_header : new_header r further ≡ new_header b c₂
  unfolding further
  same_header = header_of r b further c₂ (first_stays b c₁ H) (second_stays b c₁ H) (third_stays b c₁ H) (last_stays b c₁ H) refl refl (ap length (sym Q.ops_is)) refl

  pub record_then : new_record r further ≡ new_record b c₂
  unfolding new_record further
  record_then =
      ap (λ (h : List ℕ). h ++ (new_name r further ++ (new_ops r further ++ (new_bases r further ++ (new_quals r further ++ new_tags r further))))) same_header
      ∙ ap (λ (n : List ℕ). new_header b c₂ ++ (n ++ (new_ops r further ++ (new_bases r further ++ (new_quals r further ++ new_tags r further))))) (name_back b c₁ H)
      ∙ ap (λ (o : List ℕ). new_header b c₂ ++ (name_part b ++ (op_bytes o ++ (new_bases r further ++ (new_quals r further ++ new_tags r further))))) (sym Q.ops_is)
      ∙ ap (λ (s : List ℕ). new_header b c₂ ++ (name_part b ++ (new_ops b c₂ ++ (packed s ++ (new_quals r further ++ new_tags r further)))))
      (ap (λ (l : List ℕ). part l (first_kept r start c₂.len) c₂.len) (bases_back b c₁ H) ∙ kept_part (record_bases b))
      ∙ ap (λ (s : List ℕ). new_header b c₂ ++ (name_part b ++ (new_ops b c₂ ++ (new_bases b c₂ ++ (s ++ new_tags r further)))))
      (ap (λ (l : List ℕ). part l (first_kept r start c₂.len) c₂.len) (quals_back b c₁ H) ∙ kept_part (quals_part b))
      ∙ ap (λ (s : List ℕ). new_header b c₂ ++ (name_part b ++ (new_ops b c₂ ++ (new_bases b c₂ ++ (new_quals b c₂ ++ s))))) (tags_back b c₁ H)
