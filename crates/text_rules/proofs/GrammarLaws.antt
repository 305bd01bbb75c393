-- The reader's byte by byte account of a text is the specification's grammar, and what it takes is what the specification has in its grammar.
use Prim.Native.Nat.{ℕ, ◌+◌, ◌-◌, ◌*◌, ◌≤◌, ◌<◌}
use mathlib.Core.Path.{◌≡◌, refl, sym, ap, ◌∙◌, subst}
use mathlib.Core.Bool.{Bool, true, false, cond, ◌||◌}
use mathlib.Core.List.{List, [], ◌∷◌, ◌++◌}
use native.Mathlib.Omega.{arith}
use lib.ListN.{get_or}
use lib.Dec.{ltb, eqb}
use borrow.Author.Tests.{ltb-false, eqb-false}
use Rattle.lists.proofs.EachLaws.{each_map}
use Rattle.lists.proofs.Absurd.{never}
use Rattle.sam.specs.Op.{len_of, op_of, letters, letter_code}
use Rattle.sam.specs.Text.{Digit, Digits, value, Spells, is_digit}
use Rattle.text_rules.specs.Text.{Effect, effect_of, on_effect, row_from, is_row, ops_from, text_ops}
use Rattle.text_rules.specs.Valid.{valid_mapped}
use Rattle.text_rules.specs.Strict.{strict}
use Rattle.lists.specs.Lists.{Each}
use Rattle.text_rules.specs.Meaning.{MappedText}
use Rattle.sam.proofs.LetterLaws.{letter-code, letter_digit, code_letter}
use Rattle.sam.proofs.TextLaws.{digit_is, a_digit}
use Rattle.text_rules.proofs.ByteLaws.{byte_digit, byte_letter}
use Rattle.text_rules.proofs.ValidLaws.{split_and, valid-mapped, mapped_valid}

-- ---- a text of the grammar is read

value_ge : (ds : List ℕ) (m : ℕ) → Digits ds → m ≤ value m ds
unfolding value
value_ge [] m h = omega arith
value_ge (b ∷ ds) m h = omega (arith, value_ge ds (m * 10 + (b - 48)) h.1)

run_row : (ds : List ℕ) (b num : ℕ) (some : Bool) (s : List ℕ) → Digits (b ∷ ds) → value num (b ∷ ds) ≤ 268435455
    → (row_from num some ((b ∷ ds) ++ s) ≡ row_from (value num (b ∷ ds)) true s) × (ops_from num ((b ∷ ds) ++ s) ≡ ops_from (value num (b ∷ ds)) s)
unfolding value row_from ops_from
run_row [] b num some s h m =
    let n = byte_digit num b (digit_is b h.0) m in
    (rw n, rw n)
run_row (d ∷ ds) b num some s h m =
    let n = byte_digit num b (digit_is b h.0) (omega (arith, m, value_ge (d ∷ ds) (num * 10 + (b - 48)) h.1)) in
    let r = run_row ds d (num * 10 + (b - 48)) true s h.1 m in
    (rw n r.0, rw n r.1)

-- the lengths of a text that is read
abbrev pub InRange : ℕ → Type 0
InRange o = (0 < len_of o) × (len_of o ≤ 268435455)

pub complete : {s xs : List ℕ} → Spells s xs → Each InRange xs → (is_row s ≡ true) × (text_ops s ≡ xs)
unfolding row_from ops_from
complete Spells.end h = (refl, refl)
complete (Spells.op d ds c {s} {ops} a k t) h =
    let v = value 0 (d ∷ ds) in
    let l = get_or letters c 0 in
    let n : len_of (op_of v c) ≡ v = omega arith in
    let some : 0 < v = omega (arith, h.0.0) in
    let r = run_row ds d 0 false (l ∷ s) a (omega (arith, h.0.1)) in
    let e : effect_of v l ≡ Effect.Letter c = byte_letter v l (letter_digit c k) (λ z. omega arith) (omega (arith, letter-code c k)) ∙ ap Effect.Letter (letter-code c k) in
    let ih = complete t h.1 in
    (r.0 ∙ rw e ih.0, r.1 ∙ rw e (ap (λ (ys : List ℕ). op_of v c ∷ ys) ih.1))

-- ---- a text that is read is one of the grammar

abbrev InGrammar : ℕ → ℕ → Effect → Type 0
InGrammar num b (Effect.Number v) = Digit b × (v ≡ num * 10 + (b - 48)) × (v ≤ 268435455)
InGrammar num b (Effect.Letter c) = (0 < num) × (c < 9) × (b ≡ get_or letters c 0)
InGrammar num b Effect.Bad = Unit {0}

in_grammar_pick : (num b : ℕ) (t u v w : Bool) → is_digit b ≡ t → ltb 268435455 (num * 10 + (b - 48)) ≡ u → eqb num 0 ≡ v → ltb 8 (letter_code b) ≡ w
    → InGrammar num b (cond t (cond u Effect.Bad (Effect.Number (num * 10 + (b - 48)))) (cond (v || w) Effect.Bad (Effect.Letter (letter_code b))))
in_grammar_pick num b true true v w a e f g = tt
in_grammar_pick num b true false v w a e f g = (a_digit b a, refl, ltb-false 268435455 (num * 10 + (b - 48)) e)
in_grammar_pick num b false u true w a e f g = tt
in_grammar_pick num b false u false true a e f g = tt
in_grammar_pick num b false u false false a e f g =
    let z : num ≡ 0 → ⊥ = eqb-false num 0 f in
    let low : letter_code b ≤ 8 = ltb-false 8 (letter_code b) g in
    (omega arith, omega arith, sym (code_letter b (omega arith)))

in_grammar : (num b : ℕ) → InGrammar num b (effect_of num b)
unfolding effect_of
in_grammar num b = in_grammar_pick num b (is_digit b) (ltb 268435455 (num * 10 + (b - 48))) (eqb num 0) (ltb 8 (letter_code b)) refl refl refl refl

-- what is left of a text after the number num of an op's digits: more digits, a letter, and a row
record OpLeft (num : ℕ) (s xs : List ℕ) : Type 0 where
  digits : List ℕ
  code : ℕ
  rest : List ℕ
  others : List ℕ
  split : s ≡ digits ++ (get_or letters code 0 ∷ rest)
  are : Digits digits
  some : 0 < value num digits
  most : value num digits ≤ 268435455
  known : code < 9
  row : Spells rest others
  fits : Each InRange others
  ops_are : xs ≡ op_of (value num digits) code ∷ others

abbrev Whole : List ℕ → List ℕ → Type 0
Whole s xs = Spells s xs × Each InRange xs

abbrev Readable : List ℕ → Type 0
Readable s =
    ((num : ℕ) → num ≤ 268435455 → row_from num true s ≡ true → OpLeft num s (ops_from num s))
    × (row_from 0 false s ≡ true → Whole s (ops_from 0 s))

mid_byte : (x : Effect) (num b : ℕ) (s : List ℕ) → num ≤ 268435455 → InGrammar num b x → Readable s
    → on_effect x (λ v. row_from v true s) (λ c. row_from 0 false s) false ≡ true → OpLeft num (b ∷ s) (on_effect x (λ v. ops_from v s) (λ c. op_of num c ∷ ops_from 0 s) [])
unfolding value
mid_byte (Effect.Number v) num b s h w ih e =
    let t = ih.0 v w.2 e in
    let q : value v t.digits ≡ value (num * 10 + (b - 48)) t.digits = ap (λ (k : ℕ). value k t.digits) w.1 in
    record {
      digits = b ∷ t.digits;
      code = t.code;
      rest = t.rest;
      others = t.others;
      split = ap (λ (l : List ℕ). b ∷ l) t.split;
      are = (w.0, t.are);
      some = subst (λ (k : ℕ). 0 < k) q t.some;
      most = subst (λ (k : ℕ). k ≤ 268435455) q t.most;
      known = t.known;
      row = t.row;
      fits = t.fits;
      ops_are = t.ops_are ∙ ap (λ (k : ℕ). op_of k t.code ∷ t.others) q;
    }
mid_byte (Effect.Letter c) num b s h w ih e = record {
  digits = [];
  code = c;
  rest = s;
  others = ops_from 0 s;
  split = ap (λ (l : ℕ). l ∷ s) w.2;
  are = tt;
  some = w.0;
  most = h;
  known = w.1;
  row = (ih.1 e).0;
  fits = (ih.1 e).1;
  ops_are = refl;
}
mid_byte Effect.Bad num b s h w ih e = never (cc)

start_byte : (x : Effect) (b : ℕ) (s : List ℕ) → InGrammar 0 b x → Readable s
    → on_effect x (λ v. row_from v true s) (λ c. row_from 0 false s) false ≡ true → Whole (b ∷ s) (on_effect x (λ v. ops_from v s) (λ c. op_of 0 c ∷ ops_from 0 s) [])
unfolding value mid_byte
start_byte (Effect.Number v) b s w ih e =
    let t = mid_byte (Effect.Number v) 0 b s (omega arith) w ih e in
    let u = ih.0 v w.2 e in
    let k = t.known in
    let n : len_of (op_of (value 0 t.digits) t.code) ≡ value 0 t.digits = omega arith in
    rw (t.split, t.ops_are)
    (Spells.op b u.digits t.code t.are t.known t.row, ((omega (arith, t.some), omega (arith, t.most)), t.fits))
start_byte (Effect.Letter c) b s w ih e = absurd (omega (arith, w.0))
start_byte Effect.Bad b s w ih e = never (cc)

read : (s : List ℕ) → Readable s
unfolding row_from ops_from
read [] = ((λ num h e. never (cc)), (λ e. (Spells.end, tt)))
read (b ∷ s) = ((λ num h e. mid_byte (effect_of num b) num b s h (in_grammar num b) (read s) e), (λ e. start_byte (effect_of 0 b) b s (in_grammar 0 b) (read s) e))

pub sound : (s : List ℕ) → is_row s ≡ true → Spells s (text_ops s) × Each InRange (text_ops s)
sound s e = (read s).1 e

-- ---- the strict reader takes what the specification has in its grammar, and answers that list

range_of : (xs : List ℕ) → Each (λ o. 0 < len_of o) xs → Each (λ o. len_of o ≤ 268435455) xs → Each InRange xs
range_of [] h k = tt
range_of (x ∷ xs) h k = ((h.0, k.0), range_of xs h.1 k.1)

pub accepts : (s : List ℕ) → strict s ≡ true → MappedText s (text_ops s)
unfolding strict
accepts s e =
    let h = split_and (is_row s) (valid_mapped (text_ops s)) e in
    let r = sound s h.0 in
    record { spells = r.0; fits = each_map InRange (λ o. len_of o ≤ 268435455) (λ o h. h.1) (text_ops s) r.1; mapped = valid-mapped (text_ops s) h.1 }

pub accepted : (s xs : List ℕ) → MappedText s xs → (strict s ≡ true) × (text_ops s ≡ xs)
unfolding strict
accepted s xs m =
    let r = complete m.spells (range_of xs m.mapped.lengths m.fits) in
    (rw (r.0, r.1) (mapped_valid xs m.mapped), r.1)
