-- Both ends from the one statement, `Drops` of the list as seen from the chosen end: at the start what is seen moves by the part that is gone, and at the end what is left is seen as before.
use Prim.Native.Nat.{ℕ, ◌+◌, ◌-◌, ◌≤◌, ◌<◌}
use Rattle.std.specs.Prelude.{Ok, Err, Some, None, Option}
use Rattle.answers.specs.Answer.{Answer}
use mathlib.Core.Path.{◌≡◌, refl, sym, ap, ◌∙◌}
use mathlib.Core.Bool.{Bool, true, false}
use mathlib.Core.List.{List, ◌++◌, reverse}
use native.Mathlib.Omega.{arith}
use lib.Dec.{ltb}
use borrow.Author.Tests.{ltb-true, ltb-false, lt-ltb, le-ltb}
use Rattle.lists.specs.Lists.{facing, sum_of}
use Rattle.sam.specs.Op.{query_len, ref_len}
use Rattle.sam.specs.Columns.{Column, columns, queries, Over, Base, Gap, Off, Spot, past}
use Rattle.sam.proofs.ColumnLaws.{seen, seen_past, seen_in, seen_off, queries_append}
use Rattle.sam.proofs.LengthLaws.{query-length, reference_length}
use Rattle.lookup_rules.specs.Lookup.{look, read_over, lookup_up_to, counted, looked_up_to}
use Rattle.lookup_rules.specs.Examined.{examined}
use Rattle.lookup_rules.specs.Meaning.{InBounds}
use Rattle.lookup_rules.specs.declared.Found.{Found}
use Rattle.lookup_rules.proofs.LookupLaws.{look_seen, lookup_at}
use Rattle.clip_laws.specs.Drops.{Drops}
use Rattle.partner_laws.specs.Partners.{partner, Less, StartKeeps, EndKeeps}
use Rattle.partner_laws.specs.Partners as means
use Rattle.partner_laws.proofs.Mirror.{mirror}

-- ---- what is seen of the columns that are left

module _ {xs ys : List ℕ} {r : ℕ} (D : Drops xs ys r) where
  lost_query : queries D.gone + sum_of query_len ys ≡ sum_of query_len xs
  lost_query =
      let p = query-length xs in
      let q = query-length ys in
      let g = ap queries D.list_is ∙ queries_append D.gone (columns ys) in
      omega arith

  look_past : (n k : ℕ) → n ≡ r + k → look xs n ≡ past (queries D.gone) (look ys k)
  look_past n k h =
      let g = D.lost_is in
      look_seen xs n
      ∙ ap (λ (l : List Column). seen l n) D.list_is
      ∙ seen_past D.gone (columns ys) n k (omega arith)
      ∙ ap (past (queries D.gone)) (sym (look_seen ys k))

look-kept : (xs ys : List ℕ) (gone : List Column) (k : ℕ) → columns xs ≡ columns ys ++ gone → k < sum_of ref_len ys → look ys k ≡ look xs k
look-kept xs ys gone k e h =
    let r = reference_length ys in
    look_seen ys k ∙ sym (look_seen xs k ∙ ap (λ (l : List Column). seen l k) e ∙ seen_in (columns ys) gone k (omega arith))

look_off : (ys : List ℕ) (k : ℕ) → sum_of ref_len ys ≤ k → (look ys k).over ≡ Off
look_off ys k h = let r = reference_length ys in ap (λ (s : Spot). s.over) (look_seen ys k ∙ seen_off (columns ys) k (omega arith))

-- ---- what lookup tells of it

uncounted : (a : Answer (Option ℕ)) (n : ℕ) → partner (counted a n) ≡ a
uncounted (Ok p) n = refl
uncounted (Err w) n = refl

tells : (limit : ℕ) (xs : List ℕ) (start at : ℕ) (asked : Bool) {f : Answer Found} → f ≡ looked_up_to limit xs start at asked → partner f ≡ lookup_up_to limit xs start at asked
unfolding looked_up_to
tells limit xs start at asked e = ap partner e ∙ uncounted (lookup_up_to limit xs start at asked) (examined xs start at)

less_read : (lost : ℕ) (s : Spot) → Less lost (read_over false (lost + s.before) s.over) (read_over false s.before s.over)
less_read lost s = go s.over
  where
    go : (o : Over) → Less lost (read_over false (lost + s.before) o) (read_over false s.before o)
    go Base = means.base (s.before + 1) (ap (λ (n : ℕ). Ok (Some n)) (omega arith)) refl
    go Gap = means.none refl refl
    go Off = means.none refl refl

-- ---- THE TWO SENTENCES, of whatever list is left

module _ (limit : ℕ) {xs ys : List ℕ} (start r : ℕ) where
  pub keeps_start : Drops (facing true xs) (facing true ys) r → InBounds limit xs start → InBounds limit ys (start + r) → StartKeeps (looked_up_to limit) xs ys start r
  keeps_start D X Y =
      record {
        lost = queries D.gone;
        lost_is = lost_query D;
        kept = λ at old new h e f.
            let k = at - (start + r) in
            let p = look_past D (at - start) k (omega arith) in
            rw (tells limit xs start at false e, tells limit ys (start + r) at false f, lookup_at limit xs start at false X (omega arith), lookup_at limit ys (start + r) at false Y h, p)
            (less_read (queries D.gone) (look ys k));
      }

  module _ (D : Drops (facing false xs) (facing false ys) r) (X : InBounds limit xs start) (Y : InBounds limit ys start) (asked : Bool) where
    seen_end : (at : ℕ) → start ≤ at → at < start + sum_of ref_len ys → lookup_up_to limit ys start at asked ≡ lookup_up_to limit xs start at asked
    seen_end at l h =
        lookup_at limit ys start at asked Y l
        ∙ ap (λ (s : Spot). read_over asked s.before s.over) (look-kept xs ys (reverse D.gone) (at - start) (mirror xs ys r D) (omega arith))
        ∙ sym (lookup_at limit xs start at asked X l)

    before : {zs : List ℕ} → InBounds limit zs start → (at : ℕ) → at < start → lookup_up_to limit zs start at asked ≡ Ok None
    unfolding lookup_up_to
    before Z at h = simp (le-ltb _ _ Z.few, le-ltb _ _ Z.low, le-ltb _ _ Z.high, lt-ltb _ _ h)

    kept-end : (at : ℕ) → at < start + sum_of ref_len ys → lookup_up_to limit ys start at asked ≡ lookup_up_to limit xs start at asked
    kept-end at h = go (ltb at start) refl
      where
        go : (b : Bool) → ltb at start ≡ b → lookup_up_to limit ys start at asked ≡ lookup_up_to limit xs start at asked
        go true e = let l = ltb-true at start e in before Y at l ∙ sym (before X at l)
        go false e = seen_end at (ltb-false at start e) h

    none_end : (at : ℕ) → start + sum_of ref_len ys ≤ at → lookup_up_to limit ys start at asked ≡ Ok None
    none_end at h = lookup_at limit ys start at asked Y (omega arith) ∙ rw (look_off ys (at - start) (omega arith)) refl

    pub keeps-end : EndKeeps (looked_up_to limit) asked xs ys start
    keeps-end = record { kept = λ at old new h e f. tells limit ys start at asked f ∙ kept-end at h ∙ sym (tells limit xs start at asked e); none = λ at new h f. tells limit ys start at asked f ∙ none_end at h }
