-- What the counts mean, against the SAM specification's columns: with no position clamped at 2^31 - 1, the walk counts what stands up to the column of its target.
use Prim.Native.Nat.{ℕ, ◌+◌, ◌-◌, ◌≤◌, ◌<◌, min}
use mathlib.Core.Path.{◌≡◌, refl, sym, ap, ◌∙◌}
use mathlib.Core.Bool.{Bool, true, false, cond, ◌&&◌}
use mathlib.Core.List.{List, [], ◌∷◌, ◌++◌}
use mathlib.Core.Logic.{◌⊎◌, inl, inr, ⊎_elim}
use native.Mathlib.Omega.{arith}
use lib.IntN.{ℤ, pos, ◌+ℤ◌}
use lib.Dec.{ltb}
use lib.Signed.{lt_z, le_z}
use mir.Syntax.{w32}
use mir.Val.{SFits}
use borrow.Author.Tests.{ltb-true, ltb-false, le-ltb}
use Rattle.lists.specs.Lists.{sum_of}
use Rattle.signed.specs.Whole.{raised}
use Rattle.signed.proofs.Halves.{up, dn, plus, is_lt, is_le, raise_fact}
use Rattle.sam.specs.Op.{len_of, code_of, is_query, is_ref, query_len, ref_len}
use Rattle.sam.specs.Columns.{Spot, Column, Both, Query, Reference, spell, columns, queries, refs, ref_of, Seen, base, gap}
use Rattle.sam.proofs.ColumnLaws.{seen, seen_past, seen_in, seen_both, seen_gap, seen-is, queries_spell, refs_spell, queries_append}
use Rattle.sam.proofs.LengthLaws.{query-length}
use Rattle.overhang_rules.specs.Reach.{bases_up_to, up_to, on_base, Unclamped}
use Rattle.overhang_rules.specs.Overhang.{bases_past}
use Rattle.overhang_rules.proofs.ReachLaws.{up_to_place, place_is, up_past}

-- an op over both has as many query as reference bases
pub both_len : (o : ℕ) → is_query (code_of o) ≡ true → 0 < ref_len o → query_len o ≡ ref_len o
unfolding query_len ref_len
both_len o e h = go (is_ref (code_of o)) refl
  where
    go : (r : Bool) → is_ref (code_of o) ≡ r → cond (is_query (code_of o)) (len_of o) 0 ≡ cond (is_ref (code_of o)) (len_of o) 0
    go true f = rw (e, f)
    go false f = absurd (let z : ref_len o ≡ 0 = rw f in omega arith)

pub gap_len : (o : ℕ) → is_query (code_of o) ≡ false → query_len o ≡ 0
unfolding query_len
gap_len o e = rw e

pub places : (on t p k : ℕ) (xs : List ℕ) → on ≤ 1 → t ≡ p + k → (t < 4294967295) ⊎ (p + sum_of ref_len xs ≤ 4294967295) → up_to_place on t p xs ≡ up_to on xs k
unfolding up_to_place up_to sum_of
places on t p k [] h e u = refl
places on t p k (o ∷ xs) h e u =
    rw (le-ltb t p (omega arith))
    (go (ltb k (ref_len o)) refl (is_query (code_of o)) refl (ltb (t - p + on) (ref_len o)) refl
    (onward (λ l v. places on t (p + ref_len o) (k - ref_len o) xs h (omega arith) v)))
  where
    next : ℕ
    next = min (p + ref_len o) 4294967295

    beyond : k < ref_len o → up_to_place on t next xs ≡ 0
    beyond l = up_past on t next xs 0 (⊎_elim (λ w. omega arith) (λ w. omega arith) u)

    onward : (ref_len o ≤ k → (t < 4294967295) ⊎ (p + ref_len o + sum_of ref_len xs ≤ 4294967295) → up_to_place on t (p + ref_len o) xs ≡ up_to on xs (k - ref_len o))
        → ref_len o ≤ k → query_len o + up_to_place on t next xs ≡ query_len o + up_to on xs (k - ref_len o)
    onward ih l =
        let n : next ≡ p + ref_len o = ⊎_elim (λ w. omega arith) (λ w. omega arith) u in
        ap (λ (m : ℕ). query_len o + m) (ap (λ (q : ℕ). up_to_place on t q xs) n ∙ ih l (⊎_elim (λ w. inl w) (λ w. inr (omega arith)) u))

    go : (a : Bool) → ltb k (ref_len o) ≡ a → (b : Bool) → is_query (code_of o) ≡ b → (c : Bool) → ltb (t - p + on) (ref_len o) ≡ c
        → (ref_len o ≤ k → query_len o + up_to_place on t next xs ≡ query_len o + up_to on xs (k - ref_len o))
        → cond (b && c) (t - p + on) (query_len o + up_to_place on t next xs) ≡ cond a (cond b (k + on) 0) (query_len o + up_to on xs (k - ref_len o))
    go true f true g true i on-past = omega arith
    go true f true g false i on-past =
        let l = ltb-true k (ref_len o) f in
        omega (arith, ltb-false (t - p + on) (ref_len o) i, both_len o g (omega arith), beyond l)
    go true f false g c i on-past = omega (arith, gap_len o g, beyond (ltb-true k (ref_len o) f))
    go false f true g true i on-past = absurd (omega (arith, ltb-false k (ref_len o) f, ltb-true (t - p + on) (ref_len o) i))
    go false f true g false i on-past = on-past (ltb-false k (ref_len o) f)
    go false f false g c i on-past = on-past (ltb-false k (ref_len o) f)

-- ---- the count by reference bases, against the columns

abbrev counted : ℕ → Spot → ℕ
counted on s = s.before + on_base on s.over

-- within one op
within_op : (on : ℕ) (q r : Bool) (n k : ℕ) → k < cond r n 0 → cond q (k + on) 0 ≡ counted on (seen (spell q r n) k)
within_op on true true n k h = rw (seen_both n k h) refl
within_op on true false n k h = absurd (omega arith)
within_op on false true n k h = rw (seen_gap n k h) refl
within_op on false false n k h = absurd (omega arith)

up_to_seen : (on : ℕ) (xs : List ℕ) (k : ℕ) → up_to on xs k ≡ counted on (seen (columns xs) k)
unfolding up_to seen columns query_len ref_len
up_to_seen on [] k = refl
up_to_seen on (o ∷ xs) k = go (ltb k (ref_len o)) refl (up_to_seen on xs (k - ref_len o))
  where
    p : List Column
    p = spell (is_query (code_of o)) (is_ref (code_of o)) (len_of o)

    go : (b : Bool) → ltb k (ref_len o) ≡ b → up_to on xs (k - ref_len o) ≡ counted on (seen (columns xs) (k - ref_len o))
        → cond b (cond (is_query (code_of o)) (k + on) 0) (query_len o + up_to on xs (k - ref_len o)) ≡ counted on (seen (p ++ columns xs) k)
    go true e ih =
        let l = ltb-true k (ref_len o) e in
        let r = refs_spell (is_query (code_of o)) (is_ref (code_of o)) (len_of o) in
        within_op on (is_query (code_of o)) (is_ref (code_of o)) (len_of o) k l ∙ sym (ap (counted on) (seen_in p (columns xs) k (omega arith)))
    go false e ih =
        let l = ltb-false k (ref_len o) e in
        let r = refs_spell (is_query (code_of o)) (is_ref (code_of o)) (len_of o) in
        let q = queries_spell (is_query (code_of o)) (is_ref (code_of o)) (len_of o) in
        let s = ap (counted on) (seen_past p (columns xs) k (k - ref_len o) (omega arith)) in
        omega arith

module _ (on : ℕ) (xs : List ℕ) (k : ℕ) where
  -- what stands at reference base k tells the count
  up_to_spot : (s : Spot) → Seen (columns xs) k s → up_to on xs k ≡ counted on s
  up_to_spot s S = up_to_seen on xs k ∙ ap (counted on) (sym (seen-is (columns xs) k s S))

  module _ (left right : List Column) (l : refs left ≡ k) where
    up-to-base : columns xs ≡ left ++ (Both ∷ right) → up_to on xs k ≡ queries left + on
    up-to-base e = up_to_spot _ (base left right e l refl)

    up-to-gap : columns xs ≡ left ++ (Reference ∷ right) → up_to on xs k ≡ queries left
    up-to-gap e = up_to_spot _ (gap left right e l refl) ∙ omega arith

-- ---- an alignment from p on, and a target k positions after p

module _ (t p : ℤ) (k : ℕ) (xs : List ℕ) (f : SFits w32 t) (g : SFits w32 p) (e : t ≡ p +ℤ pos k) (u : Unclamped t p xs) where
  pub bases_up_to_is : (on : ℕ) → on ≤ 1 → bases_up_to on t p xs ≡ up_to on xs k
  bases_up_to_is on h =
      sym (place_is on t p xs f g) ∙ places on (raised t) (raised p) k xs h there (⊎_elim (λ w. inl (before w)) (λ w. inr (within w)) u)
    where
      there : raised t ≡ raised p + k
      there =
          let a : raised t + dn (p +ℤ pos k) ≡ up (p +ℤ pos k) + 2147483648 = rw (← e) (raise_fact t f) in
          omega (arith, raise_fact p g, plus p (pos k))

      before : lt_z t (pos 2147483647) ≡ true → raised t < 4294967295
      before w = omega (arith, is_lt t (pos 2147483647) w, raise_fact t f)

      within : le_z (p +ℤ pos (sum_of ref_len xs)) (pos 2147483647) ≡ true → raised p + sum_of ref_len xs ≤ 4294967295
      within w = omega (arith, is_le (p +ℤ pos (sum_of ref_len xs)) (pos 2147483647) w, plus p (pos (sum_of ref_len xs)), raise_fact p g)

  -- THE MEANING of the overhang's count: the query bases before the target's column, and the one in it if on is 1
  pub bases_up_to_seen : (on : ℕ) (s : Spot) → on ≤ 1 → Seen (columns xs) k s → bases_up_to on t p xs ≡ s.before + on_base on s.over
  bases_up_to_seen on s h S = bases_up_to_is on h ∙ up_to_spot on xs k s S

  module _ (left right : List Column) (l : refs left ≡ k) where
    -- the query bases before the target are those of the columns on its left
    pub before_left : (c : Column) → ref_of c ≡ 1 → columns xs ≡ left ++ (c ∷ right) → bases_up_to 0 t p xs ≡ queries left
    before_left Both r d = bases_up_to_is 0 (omega arith) ∙ up-to-base 0 xs k left right l d ∙ omega arith
    before_left Query r d = absurd (omega arith)
    before_left Reference r d = bases_up_to_is 0 (omega arith) ∙ up-to-gap 0 xs k left right l d

    -- the query bases past the target are those of the columns on its right
    pub past_right : (c : Column) → ref_of c ≡ 1 → columns xs ≡ left ++ (c ∷ right) → bases_past t p xs ≡ queries right
    unfolding queries
    past_right Both r d =
        let q = query-length xs ∙ ap queries d ∙ queries_append left (Both ∷ right) in
        let n = bases_up_to_is 1 (omega arith) ∙ up-to-base 1 xs k left right l d in
        omega arith
    past_right Query r d = absurd (omega arith)
    past_right Reference r d =
        let q = query-length xs ∙ ap queries d ∙ queries_append left (Reference ∷ right) in
        let n = bases_up_to_is 1 (omega arith) ∙ up-to-gap 1 xs k left right l d in
        omega arith
