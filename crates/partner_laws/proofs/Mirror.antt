-- Columns from the other end: an op's columns are all alike, so those of the reversed list are the list's reversed.
use Prim.Native.Nat.{ℕ, zero, suc}
use mathlib.Core.Path.{◌≡◌, refl, sym, ap, ◌∙◌}
use mathlib.Core.Bool.{Bool, true, false}
use mathlib.Core.List.{List, [], ◌∷◌, ◌++◌, reverse, reverse-cons, reverse-append, reverse-reverse, append_assoc, append-nil}
use lib.ListN.{replicate}
use Rattle.sam.specs.Op.{len_of, code_of, is_ref, is_query}
use Rattle.sam.specs.Columns.{Column, Both, Query, Reference, spell, columns}
use Rattle.clip_laws.specs.Drops.{Drops}

columns_append : (xs ys : List ℕ) → columns (xs ++ ys) ≡ columns xs ++ columns ys
unfolding columns
columns_append [] ys = refl
columns_append (o ∷ xs) ys =
    let p = spell (is_query (code_of o)) (is_ref (code_of o)) (len_of o) in
    ap (λ (l : List Column). p ++ l) (columns_append xs ys) ∙ sym (append_assoc p (columns xs) (columns ys))

reverse_same : (n : ℕ) (c : Column) → reverse (replicate n c) ≡ replicate n c
reverse_same zero c = refl
reverse_same (suc n) c = reverse-cons c (replicate n c) ∙ ap (λ (l : List Column). l ++ (c ∷ [])) (reverse_same n c) ∙ turn n
  where
    turn : (m : ℕ) → replicate m c ++ (c ∷ []) ≡ c ∷ replicate m c
    turn zero = refl
    turn (suc m) = ap (λ (l : List Column). c ∷ l) (turn m)

reverse_spell : (q r : Bool) (n : ℕ) → reverse (spell q r n) ≡ spell q r n
reverse_spell true true n = reverse_same n Both
reverse_spell true false n = reverse_same n Query
reverse_spell false true n = reverse_same n Reference
reverse_spell false false n = refl

columns_reverse : (xs : List ℕ) → columns (reverse xs) ≡ reverse (columns xs)
unfolding columns
columns_reverse [] = refl
columns_reverse (o ∷ xs) =
    let p = spell (is_query (code_of o)) (is_ref (code_of o)) (len_of o) in
    ap columns (reverse-cons o xs)
    ∙ columns_append (reverse xs) (o ∷ [])
    ∙ ap (λ (l : List Column). l ++ (p ++ [])) (columns_reverse xs)
    ∙ ap (λ (l : List Column). reverse (columns xs) ++ l) (append-nil p ∙ sym (reverse_spell (is_query (code_of o)) (is_ref (code_of o)) (len_of o)))
    ∙ sym (reverse-append p (columns xs))

-- a first part that is gone, seen from the end, is a last part of the list
pub mirror : (xs ys : List ℕ) (r : ℕ) (D : Drops (reverse xs) (reverse ys) r) → columns xs ≡ columns ys ++ reverse D.gone
mirror xs ys r D =
    sym (ap reverse (columns_reverse xs) ∙ reverse-reverse (columns xs))
    ∙ ap reverse D.list_is
    ∙ reverse-append D.gone (columns (reverse ys))
    ∙ ap (λ (l : List Column). l ++ reverse D.gone) (ap reverse (columns_reverse ys) ∙ reverse-reverse (columns ys))
