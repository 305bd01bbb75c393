-- What is printed spells the list, in the specification's words.
use Prim.Native.Nat.{ℕ, ◌<◌}
use mathlib.Core.Path.{◌≡◌, refl, sym, ap, ◌∙◌, subst}
use mathlib.Core.Bool.{Bool, true, false, ◌||◌}
use mathlib.Core.List.{List, [], ◌∷◌, ◌++◌, append_assoc}
use native.Mathlib.Omega.{arith}
use lib.Dec.{ltb}
use borrow.Author.Tests.{ltb-false}
use Rattle.lists.proofs.Absurd.{never}
use Rattle.sam.specs.Op.{len_of, code_of, op_of}
use Rattle.sam.specs.Text.{Digits, value, Spells}
use Rattle.ops.specs.Ops.{letter_of}
use Rattle.decimal.specs.Decimal.{decimal}
use Rattle.decimal.proofs.Meaning.{decimal_means}
use Rattle.print_rules.specs.Text.{op_text, text_of, any_bad}

op_spells : (o : ℕ) (s xs : List ℕ) → code_of o < 9 → Spells s xs → Spells (op_text o ++ s) (o ∷ xs)
unfolding op_text letter_of
op_spells o s xs h t =
    let m = decimal_means (len_of o) in
    let l = m.led in
    let d = letter_of (code_of o) in
    let ds : Digits (l.first ∷ l.rest) = subst Digits l.is m.digits in
    let v : value 0 (l.first ∷ l.rest) ≡ len_of o = ap (value 0) (sym l.is) ∙ m.number in
    let e : op_of (value 0 (l.first ∷ l.rest)) (code_of o) ≡ o = ap (λ (n : ℕ). op_of n (code_of o)) v ∙ omega arith in
    let f : (l.first ∷ l.rest) ++ (d ∷ s) ≡ (decimal (len_of o) ++ (d ∷ [])) ++ s =
    ap (λ (ds : List ℕ). ds ++ (d ∷ s)) (sym l.is) ∙ sym (append_assoc (decimal (len_of o)) (d ∷ []) s) in
    subst (λ (u : List ℕ). Spells u (o ∷ xs)) f
    (subst (λ (n : ℕ). Spells ((l.first ∷ l.rest) ++ (d ∷ s)) (n ∷ xs)) e (Spells.op l.first l.rest (code_of o) ds h t))

-- what is printed of a list spells the list
pub print_spells : (xs : List ℕ) → any_bad xs ≡ false → Spells (text_of xs) xs
unfolding text_of any_bad
print_spells [] e = Spells.end
print_spells (o ∷ xs) e = go (ltb 8 (code_of o)) refl e (print_spells xs)
  where
    go : (t : Bool) → ltb 8 (code_of o) ≡ t → (t || any_bad xs) ≡ false → (any_bad xs ≡ false → Spells (text_of xs) xs) → Spells (op_text o ++ text_of xs) (o ∷ xs)
    go true q f ih = never (cc)
    go false q f ih = let low = ltb-false 8 (code_of o) q in op_spells o (text_of xs) xs (omega arith) (ih f)
