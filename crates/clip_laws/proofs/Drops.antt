-- A clip drops a first part of the columns: each op that it takes spells a part, and an op that it cuts spells two. For every list and every amount.
use mathlib.Core.Path.{◌≡◌, refl, sym, ap, ◌∙◌}
use mathlib.Core.Bool.{Bool, true, false, cond}
use mathlib.Core.List.{List, [], ◌∷◌, ◌++◌, append_assoc}
use Prim.Native.Nat.{ℕ, ◌+◌, ◌-◌, min}
use native.Mathlib.Omega.{arith}
use lib.ListN.{length}
use lib.Dec.{eqb, leb}
use borrow.Author.Tests.{eqb-true}
use Rattle.lists.specs.Lists.{facing, sum_of}
use Rattle.lists.specs.Runs.{leading, after_leading}
use Rattle.lists.proofs.Sums.{facing_facing}
use Rattle.sam.specs.Op.{len_of, code_of, op_of, is_ref, is_query, ref_len}
use Rattle.sam.specs.Columns.{Column, spell, columns, refs}
use Rattle.sam.proofs.ColumnLaws.{columns_cons, spell_add, spell_none, refs_append, refs_spell}
use Rattle.sam.proofs.LengthLaws.{reference_length}
use Rattle.ops.specs.Ops.{read_len}
use Rattle.clip_run_rules.specs.Clips.{is_hard, run, run_len, after_run, outer_hard, next_soft, inside, leading_clips}
use Rattle.clip_rules.specs.Clipping.{taking, Cut, hard_of, soft_of, upgraded, cut_into, clip}
use Rattle.clip_rules.specs.Answer.{clipped_ops}
use Rattle.clip_rules.proofs.CodeLaws.{read_le, read_all, op_len, op_code}
use Rattle.clip_rules.proofs.RuleLaws.{take-nil}
use Rattle.clip_laws.specs.Drops.{Drops}
use Rattle.clip_laws.proofs.CodeLaws.{ref_I, cut_ref, soft_len, soft_code, hard_code}
use Rattle.clip_laws.proofs.TakeLaws.{Way, whole, none, over, cuts, way, take_whole, take_none, take_over, take-cut}

drops_none : (xs : List ℕ) → Drops xs xs 0
unfolding refs
drops_none xs = record { gone = []; list_is = refl; lost_is = refl }

-- ---- taking

abbrev spelt : ℕ → ℕ → List Column
spelt o n = spell (is_query (code_of o)) (is_ref (code_of o)) n

spelt_refs : (o : ℕ) → refs (spelt o (len_of o)) ≡ ref_len o
unfolding ref_len
spelt_refs o = refs_spell (is_query (code_of o)) (is_ref (code_of o)) (len_of o)

-- a cut op spells what is left of it
cut_spells : (o n : ℕ) (xs : List ℕ) → columns (op_of n (code_of o) ∷ xs) ≡ spelt o n ++ columns xs
cut_spells o n xs = columns_cons (op_of n (code_of o)) xs ∙ rw (op_code n o, op_len n o) refl

drops_take : (xs : List ℕ) (n : ℕ) → Drops xs (taking xs n).left (taking xs n).lost
drops_take [] n = rw (take-nil n) (drops_none [])
drops_take (o ∷ xs) n = go (way n o) (drops_take xs (n - read_len o))
  where
    go : Way n o → Drops xs (taking xs (n - read_len o)).left (taking xs (n - read_len o)).lost → Drops (o ∷ xs) (taking (o ∷ xs) n).left (taking (o ∷ xs) n).lost
    go (whole g) D =
        let p = spelt o (len_of o) in
        let a = refs_append p D.gone in
        let r = spelt_refs o in
        let d = D.lost_is in
        rw (take_whole n o xs g)
        (record {
          gone = p ++ D.gone;
          list_is = columns_cons o xs ∙ ap (λ (l : List Column). p ++ l) D.list_is ∙ sym (append_assoc p D.gone (columns (taking xs (n - read_len o)).left));
          lost_is = omega arith;
        })
    go (none g z) D = rw (take_none n o xs g z) (drops_none (o ∷ xs))
    go (over g z q s) D = rw (take_over n o xs g z q) (record { gone = spelt o (len_of o); list_is = columns_cons o xs; lost_is = spelt_refs o ∙ ref_I o q })
    go (cuts g z q s) D =
        let m = len_of o - n in
        let i = cut_ref o (read_all n o s) q in
        let w = read_le o in
        let e : len_of o ≡ n + m = omega arith in
        rw (take-cut n o xs g z q)
        (record {
          gone = spelt o n;
          list_is = columns_cons o xs
              ∙ ap (λ (k : ℕ). spelt o k ++ columns xs) e
              ∙ ap (λ (l : List Column). l ++ columns xs) (spell_add (is_query (code_of o)) (is_ref (code_of o)) n m)
              ∙ append_assoc (spelt o n) (spelt o m) (columns xs)
              ∙ ap (λ (l : List Column). spelt o n ++ l) (sym (cut_spells o m xs));
          lost_is = refs_spell (is_query (code_of o)) (is_ref (code_of o)) n ∙ rw i refl;
        })

-- ---- the runs of clips

-- a run of one code spells its length
run_spells : (q r : Bool) (c : ℕ) → is_query c ≡ q → is_ref c ≡ r → (xs : List ℕ) → columns xs ≡ spell q r (run_len (λ d. eqb d c) xs) ++ columns (after_run (λ d. eqb d c) xs)
unfolding leading sum_of after_leading
run_spells q r c f g [] = ap (λ (l : List Column). l ++ columns []) (sym (spell_none q r))
run_spells q r c f g (o ∷ xs) = go (eqb (code_of o) c) refl (run_spells q r c f g xs)
  where
    go : (b : Bool) → eqb (code_of o) c ≡ b → columns xs ≡ spell q r (run_len (λ d. eqb d c) xs) ++ columns (after_run (λ d. eqb d c) xs)
        → columns (o ∷ xs) ≡ spell q r (sum_of len_of (cond b (o ∷ run (λ d. eqb d c) xs) [])) ++ columns (cond b (after_run (λ d. eqb d c) xs) (o ∷ xs))
    go true e ih =
        let k = eqb-true (code_of o) c e in
        let p = spell q r (len_of o) in
        columns_cons o xs
        ∙ rw (k, f, g) refl
        ∙ ap (λ (l : List Column). p ++ l) ih
        ∙ sym (append_assoc p (spell q r (run_len (λ d. eqb d c) xs)) (columns (after_run (λ d. eqb d c) xs)))
        ∙ ap (λ (l : List Column). l ++ columns (after_run (λ d. eqb d c) xs)) (sym (spell_add q r (len_of o) (run_len (λ d. eqb d c) xs)))
    go false e ih = ap (λ (l : List Column). l ++ columns (o ∷ xs)) (sym (spell_none q r))

parts : (xs : List ℕ) → columns xs ≡ spell true false (next_soft xs) ++ columns (inside xs)
unfolding next_soft inside is_query is_ref
parts xs = run_spells false false 5 refl refl xs ∙ run_spells true false 4 refl refl (after_run is_hard xs)

-- ---- the rule

hard_spells : (n : ℕ) (l : List ℕ) → columns (hard_of n ∷ l) ≡ columns l
unfolding is_query is_ref
hard_spells n l = columns_cons (hard_of n) l ∙ rw (hard_code n) refl

soft_spells : (n : ℕ) (l : List ℕ) → columns (soft_of n ++ l) ≡ spell true false n ++ columns l
unfolding soft_of is_query is_ref
soft_spells n l = go (eqb n 0) refl
  where
    go : (b : Bool) → eqb n 0 ≡ b → columns (cond b [] (op_of n 4 ∷ []) ++ l) ≡ spell true false n ++ columns l
    go true e = rw (eqb-true n 0 e) refl
    go false e = columns_cons (op_of n 4) l ∙ rw (soft_code n, soft_len n) refl

drops_soft : (xs : List ℕ) (h a : ℕ) → Drops xs (upgraded h (next_soft xs) a (inside xs)).ops (upgraded h (next_soft xs) a (inside xs)).lost
unfolding upgraded
drops_soft xs h a =
    let s = next_soft xs in
    let u = min s (a - h) in
    let e : s ≡ u + (s - u) = omega arith in
    record {
      gone = spell true false u;
      list_is = parts xs
          ∙ ap (λ (k : ℕ). spell true false k ++ columns (inside xs)) e
          ∙ ap (λ (l : List Column). l ++ columns (inside xs)) (spell_add true false u (s - u))
          ∙ append_assoc (spell true false u) (spell true false (s - u)) (columns (inside xs))
          ∙ ap (λ (l : List Column). spell true false u ++ l) (sym (hard_spells (h + u) (soft_of (s - u) ++ inside xs) ∙ soft_spells (s - u) (inside xs)));
      lost_is = refs_spell true false u;
    }

drops_cut : (xs : List ℕ) (h s n : ℕ) → Drops xs (cut_into h s (taking (inside xs) n)).ops (cut_into h s (taking (inside xs) n)).lost
unfolding cut_into
drops_cut xs h s n =
    let t = taking (inside xs) n in
    let D = drops_take (inside xs) n in
    let p = spell true false (next_soft xs) in
    let a = refs_append p D.gone in
    let r = refs_spell true false (next_soft xs) in
    let d = D.lost_is in
    record {
      gone = p ++ D.gone;
      list_is = parts xs
          ∙ ap (λ (l : List Column). p ++ l) D.list_is
          ∙ sym (append_assoc p D.gone (columns t.left))
          ∙ ap (λ (l : List Column). (p ++ D.gone) ++ l) (sym (hard_spells (h + s + t.bases) t.left));
      lost_is = omega arith;
    }

drops : (xs : List ℕ) (a : ℕ) → Drops xs (clip xs a).ops (clip xs a).lost
unfolding clip
drops xs a = go (eqb a 0) (eqb (length xs) 0) (leb a (leading_clips xs))
  where
    by : Bool → Bool → Bool → Cut
    by z e w = cond z (record { ops = xs; lost = 0 }) (cond e (record { ops = xs; lost = 0 })
        (cond w (upgraded (outer_hard xs) (next_soft xs) a (inside xs)) (cut_into (outer_hard xs) (next_soft xs) (taking (inside xs) (a - leading_clips xs)))))

    go : (z e w : Bool) → Drops xs (by z e w).ops (by z e w).lost
    go true e w = drops_none xs
    go false true w = drops_none xs
    go false false true = drops_soft xs (outer_hard xs) a
    go false false false = drops_cut xs (outer_hard xs) (next_soft xs) (a - leading_clips xs)

-- the two sentences, for both ends: what is left has the columns of the list less a first part, seen from the chosen end, and that part's reference bases are those taken
pub clip_drops : (xs : List ℕ) (a : ℕ) (start : Bool) → Drops (facing start xs) (facing start (clipped_ops xs a start)) (clip (facing start xs) a).lost
unfolding clipped_ops
clip_drops xs a start = rw (facing_facing start (clip (facing start xs) a).ops) (drops (facing start xs) a)

-- so the reference length lost is what the rule says, of every list and amount
pub drops_length : (xs ys : List ℕ) (lost : ℕ) → Drops xs ys lost → sum_of ref_len xs ≡ lost + sum_of ref_len ys
drops_length xs ys lost D =
    let p = reference_length xs in
    let q = reference_length ys in
    let r = ap refs D.list_is in
    let s = refs_append D.gone (columns ys) in
    let t = D.lost_is in
    omega arith
