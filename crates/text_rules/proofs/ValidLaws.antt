-- `is_valid_mapped_cigar` is the specification's sentences: each rule, tested at every op, is the sentence about every op.
use Prim.Native.Nat.{ℕ, ◌<◌}
use mathlib.Core.Path.{◌≡◌, refl, sym, ap, ◌∙◌, subst}
use mathlib.Core.Bool.{Bool, true, false, cond, not, ◌&&◌, ◌||◌}
use mathlib.Core.List.{List, [], ◌∷◌, ◌++◌, append_assoc, append-nil}
use mathlib.Core.Logic.{◌⊎◌, inl, inr, ⊎_elim}
use lib.Dec.{ltb}
use borrow.Author.Tests.{lt-ltb, ltb-true, eq-eqb, eqb-true}
use Rattle.lists.proofs.Absurd.{never}
use Rattle.sam.specs.Op.{len_of, code_of, is_ref}
use Rattle.sam.specs.Placement.{AllHard, WellPlaced}
use Rattle.text_rules.specs.Valid.{is_empty, soft_op, hard_op, all_hard, any_ref, each, no_zero, hard_outside, soft_outside, in_table, valid_mapped}
use Rattle.lists.specs.Lists.{Each}
use Rattle.text_rules.specs.Meaning.{HasReference, Mapped}

pub split_and : (a b : Bool) → (a && b) ≡ true → (a ≡ true) × (b ≡ true)
split_and true b e = (refl, e)
split_and false b e = never (cc)

-- ---- a rule at each op

no_nil : (l : List ℕ) (o : ℕ) (r : List ℕ) → [] ≡ l ++ (o ∷ r) → ⊥
no_nil [] o r e = never (cc)
no_nil (x ∷ l) o r e = never (cc)

both_true : (a b : Bool) → a ≡ true → b ≡ true → (a && b) ≡ true
both_true a b p q = rw p q

module _ (rule : List ℕ → ℕ → List ℕ → Bool) where
  pub each_at : (xs left : List ℕ) → each rule left xs ≡ true → (l : List ℕ) (o : ℕ) (r : List ℕ) → xs ≡ l ++ (o ∷ r) → rule (left ++ l) o r ≡ true
  unfolding each
  each_at [] left h l o r e = absurd (no_nil l o r e)
  each_at (x ∷ xs) left h [] o r e =
      let p : x ≡ o = cc in
      let q : xs ≡ r = cc in
      rw (append-nil left, ← p, ← q) (split_and (rule left x xs) _ h).0
  each_at (x ∷ xs) left h (y ∷ l) o r e =
      let p : x ≡ y = cc in
      let q : xs ≡ l ++ (o ∷ r) = cc in
      subst (λ (m : List ℕ). rule m o r ≡ true) (append_assoc left (x ∷ []) l ∙ ap (λ (z : ℕ). left ++ (z ∷ l)) p)
      (each_at xs (left ++ (x ∷ [])) (split_and (rule left x xs) _ h).1 l o r q)

  pub at_each : (xs left : List ℕ) → ((l : List ℕ) (o : ℕ) (r : List ℕ) → xs ≡ l ++ (o ∷ r) → rule (left ++ l) o r ≡ true) → each rule left xs ≡ true
  unfolding each
  at_each [] left f = refl
  at_each (x ∷ xs) left f =
      both_true _ _ (subst (λ (m : List ℕ). rule m x xs ≡ true) (append-nil left) (f [] x xs refl))
      (at_each xs (left ++ (x ∷ []))
      (λ l o r e. subst (λ (m : List ℕ). rule m o r ≡ true) (sym (append_assoc left (x ∷ []) l)) (f (x ∷ l) o r (ap (λ (m : List ℕ). x ∷ m) e))))

-- a rule that looks at the op alone
module _ (test : ℕ → Bool) (P : ℕ → Type 0) where
  pub each_all : ((o : ℕ) → test o ≡ true → P o) → (xs left : List ℕ) → each (λ l o r. test o) left xs ≡ true → Each P xs
  unfolding each
  each_all f [] left h = tt
  each_all f (x ∷ xs) left h = let k = split_and (test x) _ h in (f x k.0, each_all f xs (left ++ (x ∷ [])) k.1)

  pub all_each : ((o : ℕ) → P o → test o ≡ true) → (xs left : List ℕ) → Each P xs → each (λ l o r. test o) left xs ≡ true
  unfolding each
  all_each f [] left h = refl
  all_each f (x ∷ xs) left h = both_true _ _ (f x h.0) (all_each f xs (left ++ (x ∷ [])) h.1)

-- ---- the tests, as the specification's words

empty-is : (xs : List ℕ) → is_empty xs ≡ true → xs ≡ []
unfolding is_empty
empty-is [] e = refl
empty-is (x ∷ xs) e = never (cc)

is-empty : (xs : List ℕ) → xs ≡ [] → is_empty xs ≡ true
unfolding is_empty
is-empty xs e = rw e

hard_all : (xs : List ℕ) → all_hard xs ≡ true → AllHard xs
unfolding all_hard
hard_all [] e = tt
hard_all (x ∷ xs) e = let k = split_and (hard_op x) (all_hard xs) e in (eqb-true (code_of x) 5 k.0, hard_all xs k.1)

all-hard : (xs : List ℕ) → AllHard xs → all_hard xs ≡ true
unfolding all_hard
all-hard [] h = refl
all-hard (x ∷ xs) h = both_true _ _ (eq-eqb (code_of x) 5 h.0) (all-hard xs h.1)

either : (a b : Bool) → (a || b) ≡ true → (a ≡ true) ⊎ (b ≡ true)
either true b e = inl refl
either false b e = inr e

one : (a b : Bool) → (a ≡ true) ⊎ (b ≡ true) → (a || b) ≡ true
one true b h = refl
one false b h = ⊎_elim (λ p. never (cc)) (λ q. q) h

-- a clause "if c then t" that holds
cond_then : (c t : Bool) → cond c t true ≡ true → c ≡ true → t ≡ true
cond_then true t e q = e
cond_then false t e q = never (cc)

then_cond : (c t : Bool) → (c ≡ true → t ≡ true) → cond c t true ≡ true
then_cond true t f = f refl
then_cond false t f = refl

placed : (xs : List ℕ) → each hard_outside [] xs ≡ true → each soft_outside [] xs ≡ true → WellPlaced xs
placed xs h s = record {
  hards = λ l o r e k.
      ⊎_elim (λ p. inl (empty-is l p)) (λ p. inr (empty-is r p))
      (either (is_empty l) (is_empty r) (cond_then (hard_op o) _ (each_at hard_outside xs [] h l o r e) (eq-eqb (code_of o) 5 k)));
  softs = λ l o r e k.
      ⊎_elim (λ p. inl (hard_all l p)) (λ p. inr (hard_all r p))
      (either (all_hard l) (all_hard r) (cond_then (soft_op o) _ (each_at soft_outside xs [] s l o r e) (eq-eqb (code_of o) 4 k)));
}

hards_placed : (xs : List ℕ) → WellPlaced xs → each hard_outside [] xs ≡ true
hards_placed xs w =
    at_each hard_outside xs []
    (λ l o r e. then_cond (hard_op o) _
    (λ q. one (is_empty l) (is_empty r) (⊎_elim (λ p. inl (is-empty l p)) (λ p. inr (is-empty r p)) (w.hards l o r e (eqb-true (code_of o) 5 q)))))

softs_placed : (xs : List ℕ) → WellPlaced xs → each soft_outside [] xs ≡ true
softs_placed xs w =
    at_each soft_outside xs []
    (λ l o r e. then_cond (soft_op o) _
    (λ q. one (all_hard l) (all_hard r) (⊎_elim (λ p. inl (all-hard l p)) (λ p. inr (all-hard r p)) (w.softs l o r e (eqb-true (code_of o) 4 q)))))

ref_has : (xs : List ℕ) → any_ref xs ≡ true → HasReference xs
unfolding any_ref
ref_has [] e = never (cc)
ref_has (x ∷ xs) e = go (is_ref (code_of x)) refl e (ref_has xs)
  where
    go : (t : Bool) → is_ref (code_of x) ≡ t → (t || any_ref xs) ≡ true → (any_ref xs ≡ true → HasReference xs) → HasReference (x ∷ xs)
    go true q f ih = record { left = []; op = x; right = xs; split = refl; reference = q }
    go false q f ih =
        let h = ih f in
        record { left = x ∷ h.left; op = h.op; right = h.right; split = ap (λ (l : List ℕ). x ∷ l) h.split; reference = h.reference }

any-ref : (l : List ℕ) (o : ℕ) (r : List ℕ) → is_ref (code_of o) ≡ true → any_ref (l ++ (o ∷ r)) ≡ true
unfolding any_ref
any-ref [] o r e = rw e
any-ref (x ∷ l) o r e = one (is_ref (code_of x)) (any_ref (l ++ (o ∷ r))) (inr (any-ref l o r e))

some_ops : (l : List ℕ) (o : ℕ) (r : List ℕ) → not (is_empty (l ++ (o ∷ r))) ≡ true
unfolding is_empty
some_ops [] o r = refl
some_ops (x ∷ l) o r = refl

-- ---- valid is mapped

pub valid-mapped : (xs : List ℕ) → valid_mapped xs ≡ true → Mapped xs
unfolding valid_mapped
valid-mapped xs e =
    let a = split_and _ (any_ref xs) e in
    let b = split_and _ (each in_table [] xs) a.0 in
    let c = split_and _ (each soft_outside [] xs) b.0 in
    let d = split_and _ (each hard_outside [] xs) c.0 in
    let f = split_and (not (is_empty xs)) (each no_zero [] xs) d.0 in
    record {
      lengths = each_all (λ o. ltb 0 (len_of o)) (λ o. 0 < len_of o) (λ o q. ltb-true 0 (len_of o) q) xs [] f.1;
      codes = each_all (λ o. ltb (code_of o) 9) (λ o. code_of o < 9) (λ o q. ltb-true (code_of o) 9 q) xs [] b.1;
      placed = placed xs d.1 c.1;
      reference = ref_has xs a.1;
    }

pub mapped_valid : (xs : List ℕ) → Mapped xs → valid_mapped xs ≡ true
unfolding valid_mapped
mapped_valid xs m =
    let r = m.reference in
    let some : not (is_empty xs) ≡ true = rw r.split (some_ops r.left r.op r.right) in
    let ref : any_ref xs ≡ true = rw r.split (any-ref r.left r.op r.right r.reference) in
    both_true _ _
    (both_true _ _
    (both_true _ _
    (both_true _ _
    (both_true _ _
    some
    (all_each (λ o. ltb 0 (len_of o)) (λ o. 0 < len_of o) (λ o q. lt-ltb 0 (len_of o) q) xs [] m.lengths))
    (hards_placed xs m.placed))
    (softs_placed xs m.placed))
    (all_each (λ o. ltb (code_of o) 9) (λ o. code_of o < 9) (λ o q. lt-ltb (code_of o) 9 q) xs [] m.codes))
    ref
