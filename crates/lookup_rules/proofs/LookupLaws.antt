-- Lookup's walk sees what the columns show: the columns of one op are all alike.
use Prim.Native.Nat.{ℕ, ◌-◌, ◌≤◌, ◌<◌}
use Rattle.std.specs.Prelude.{Ok, None, Option}
use Rattle.answers.specs.Answer.{Answer}
use mathlib.Core.Path.{◌≡◌, refl, sym, ap, ◌∙◌}
use mathlib.Core.Bool.{Bool, true, false, cond}
use mathlib.Core.List.{List, [], ◌∷◌, ◌++◌}
use mathlib.Core.Logic.{inl, inr}
use native.Mathlib.Omega.{arith}
use lib.Dec.{ltb}
use borrow.Author.Tests.{ltb-true, ltb-false, lt-ltb, le-ltb}
use Rattle.sam.specs.Op.{len_of, code_of, is_ref, is_query, query_len, ref_len}
use Rattle.sam.specs.Columns.{Spot, Column, spell, columns, Seen, base, gap, off, past}
use Rattle.lookup_rules.specs.Lookup.{spot_in, look, read_over, lookup_up_to, counted, looked_up_to}
use Rattle.lookup_rules.specs.Examined.{place_of, examined}
use Rattle.lookup_rules.specs.Meaning.{InBounds, Reads}
use Rattle.lookup_rules.specs.Meaning as means
use Rattle.sam.proofs.ColumnLaws.{seen, seen_past, seen_in, seen_both, seen_gap, seen-is, is_seen, queries_spell, refs_spell}

-- within one op
seen_spell : (q r : Bool) (n k : ℕ) → k < cond r n 0 → seen (spell q r n) k ≡ spot_in q k
seen_spell true true n k h = seen_both n k h
seen_spell true false n k h = absurd (omega arith)
seen_spell false true n k h = seen_gap n k h
seen_spell false false n k h = absurd (omega arith)

pub look_seen : (xs : List ℕ) (k : ℕ) → look xs k ≡ seen (columns xs) k
unfolding look seen columns query_len ref_len
look_seen [] k = refl
look_seen (o ∷ xs) k = go (ltb k (ref_len o)) refl (look_seen xs (k - ref_len o))
  where
    p : List Column
    p = spell (is_query (code_of o)) (is_ref (code_of o)) (len_of o)

    go : (b : Bool) → ltb k (ref_len o) ≡ b → look xs (k - ref_len o) ≡ seen (columns xs) (k - ref_len o)
        → cond b (spot_in (is_query (code_of o)) k) (past (query_len o) (look xs (k - ref_len o))) ≡ seen (p ++ columns xs) k
    go true e ih =
        let l = ltb-true k (ref_len o) e in
        let r = refs_spell (is_query (code_of o)) (is_ref (code_of o)) (len_of o) in
        sym (seen_in p (columns xs) k (omega arith) ∙ seen_spell (is_query (code_of o)) (is_ref (code_of o)) (len_of o) k l)
    go false e ih =
        let l = ltb-false k (ref_len o) e in
        let r = refs_spell (is_query (code_of o)) (is_ref (code_of o)) (len_of o) in
        let q = queries_spell (is_query (code_of o)) (is_ref (code_of o)) (len_of o) in
        ap (past (query_len o)) ih
        ∙ ap (λ (m : ℕ). past m (seen (columns xs) (k - ref_len o))) (sym q)
        ∙ sym (seen_past p (columns xs) k (k - ref_len o) (omega arith))

-- THE LAW of lookup: what the walk finds is what stands over the reference base, and no other answer is
pub look_means : (xs : List ℕ) (k : ℕ) → Seen (columns xs) k (look xs k)
look_means xs k = rw (look_seen xs k) (is_seen (columns xs) k)

pub look_only : (xs : List ℕ) (k : ℕ) (s : Spot) → Seen (columns xs) k s → s ≡ look xs k
look_only xs k s S = seen-is (columns xs) k s S ∙ sym (look_seen xs k)

-- ---- the call, where it is accepted

module _ (limit : ℕ) (xs : List ℕ) (start at : ℕ) (asked : Bool) (t : InBounds limit xs start) where
  not_yet : at < start → lookup_up_to limit xs start at asked ≡ Ok None
  unfolding lookup_up_to
  not_yet h = simp (le-ltb _ _ t.few, le-ltb _ _ t.low, le-ltb _ _ t.high, lt-ltb _ _ h)

  pub lookup_at : start ≤ at → lookup_up_to limit xs start at asked ≡ read_over asked (look xs (at - start)).before (look xs (at - start)).over
  unfolding lookup_up_to
  lookup_at h = simp (le-ltb _ _ t.few, le-ltb _ _ t.low, le-ltb _ _ t.high, le-ltb _ _ h)

  -- and the count beside it
  pub looked_at : start ≤ at → looked_up_to limit xs start at asked ≡ counted (read_over asked (look xs (at - start)).before (look xs (at - start)).over) (place_of xs (at - start))
  unfolding looked_up_to examined
  looked_at h = rw (lookup_at h, le-ltb at start h) refl

  spot-at : (s : Spot) → start ≤ at → s ≡ look xs (at - start) → lookup_up_to limit xs start at asked ≡ read_over asked s.before s.over
  spot-at s h e = lookup_at h ∙ ap (λ (u : Spot). read_over asked u.before u.over) (sym e)

  -- lookup's answer is the query base in the column of that reference base, and no other answer is
  pub lookup_means : Reads (columns xs) start at asked (lookup_up_to limit xs start at asked)
  lookup_means = go (ltb at start) refl
    where
      sees : start ≤ at → Seen (columns xs) (at - start) (look xs (at - start)) → Reads (columns xs) start at asked (lookup_up_to limit xs start at asked)
      sees h (base left right e f g) = means.base left right e (omega arith) (spot-at _ h (sym g))
      sees h (gap left right e f g) = means.gap left right e (omega arith) (spot-at _ h (sym g))
      sees h (off l g) = means.off (inr (omega arith)) (spot-at _ h (sym g))

      go : (b : Bool) → ltb at start ≡ b → Reads (columns xs) start at asked (lookup_up_to limit xs start at asked)
      go true e = means.off (inl (ltb-true at start e)) (not_yet (ltb-true at start e))
      go false e = sees (ltb-false at start e) (look_means xs (at - start))

  pub lookup_only : (r : Answer (Option ℕ)) → Reads (columns xs) start at asked r → r ≡ lookup_up_to limit xs start at asked
  lookup_only r (means.base left right e f g) = g ∙ sym (spot-at _ (omega arith) (look_only xs (at - start) _ (base left right e (omega arith) refl)))
  lookup_only r (means.gap left right e f g) = g ∙ sym (spot-at _ (omega arith) (look_only xs (at - start) _ (gap left right e (omega arith) refl)))
  lookup_only r (means.off (inl h) g) = g ∙ sym (not_yet h)
  lookup_only r (means.off (inr h) g) = g ∙ sym (spot-at _ (omega arith) (look_only xs (at - start) _ (off (omega arith) refl)))
