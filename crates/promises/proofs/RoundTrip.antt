-- Reading what was printed of a valid list gives the list, since what is printed spells it; printing what was read gives the text without its
-- leading zeros, since decimal grows by the digit that is read.
use Prim.Native.Nat.{ℕ, ◌+◌, ◌-◌, ◌*◌, ◌≤◌, ◌<◌}
use mathlib.Core.Path.{◌≡◌, refl, sym, ap, ◌∙◌, subst}
use mathlib.Core.Bool.{Bool, true, false, cond}
use mathlib.Core.List.{List, [], ◌∷◌, ◌++◌, append_assoc, append-nil}
use native.Mathlib.Omega.{arith}
use lib.Dec.{eqb}
use lib.ListN.{get_or}
use borrow.Author.Tests.{le-ltb, eqb-true, eqb-false}
use Rattle.sam.specs.Op.{len_of, code_of, op_of, letters}
use Rattle.sam.specs.Text.{Digits, value, Spells, is_digit}
use Rattle.ops.specs.Ops.{letter_of}
use Rattle.decimal.specs.Decimal.{decimal}
use Rattle.print_rules.specs.Text.{op_text, text_of, any_bad}
use Rattle.decimal.proofs.Meaning.{decimal_one, decimal_more}
use Rattle.print_rules.proofs.GrammarLaws.{print_spells}
use Rattle.sam.proofs.LetterLaws.{letter_digit}
use Rattle.sam.proofs.TextLaws.{digit_is}
use Rattle.text_rules.specs.Text.{text_ops}
use Rattle.text_rules.specs.Valid.{valid_mapped}
use Rattle.text_rules.specs.Strict.{strict}
use Rattle.lists.specs.Lists.{Each}
use Rattle.promises.specs.RoundTrip.{without_zeros}
use Rattle.text_rules.proofs.ValidLaws.{valid-mapped}
use Rattle.text_rules.proofs.GrammarLaws.{accepts, accepted}

-- a list with codes 0 to 8 is printed
pub printable : (xs : List ℕ) → Each (λ o. code_of o < 9) xs → any_bad xs ≡ false
unfolding any_bad
printable [] h = refl
printable (x ∷ xs) h = let low = h.0 in rw (le-ltb 8 (code_of x) (omega arith)) (printable xs h.1)

-- print, then read: a list of numbers of 32 bits has lengths to 268,435,455
pub read_printed : (xs : List ℕ) → valid_mapped xs ≡ true → Each (λ o. len_of o ≤ 268435455) xs → (strict (text_of xs) ≡ true) × (text_ops (text_of xs) ≡ xs)
read_printed xs v f =
    let m = valid-mapped xs v in
    accepted (text_of xs) xs (record { spells = print_spells xs (printable xs m.codes); fits = f; mapped = m })

-- ---- read, then print

decimal_run : (ds : List ℕ) (m : ℕ) → 0 < m → Digits ds → decimal (value m ds) ≡ decimal m ++ ds
unfolding value
decimal_run [] m h d = sym (append-nil (decimal m))
decimal_run (b ∷ ds) m h d =
    decimal_run ds (m * 10 + (b - 48)) (omega arith) d.1
    ∙ ap (λ (l : List ℕ). l ++ ds) (decimal_more m b h d.0)
    ∙ append_assoc (decimal m) (b ∷ []) ds

module _ (letter : ℕ) (rest : List ℕ) (no : is_digit letter ≡ false) where
  -- behind a kept digit all digits are kept
  kept_run : (ds : List ℕ) → Digits ds → without_zeros true (ds ++ (letter ∷ rest)) ≡ ds ++ (letter ∷ without_zeros false rest)
  unfolding without_zeros
  kept_run [] d = rw no
  kept_run (b ∷ ds) d = rw (digit_is b d.0) (ap (λ (l : List ℕ). b ∷ l) (kept_run ds d.1))

  zero_run : (ds : List ℕ) → Digits ds → 0 < value 0 ds → without_zeros false (ds ++ (letter ∷ rest)) ≡ decimal (value 0 ds) ++ (letter ∷ without_zeros false rest)
  unfolding without_zeros value
  zero_run [] d h = absurd (omega arith)
  zero_run (b ∷ ds) d h = rw (digit_is b d.0) (go (eqb b 48) refl (zero_run ds d.1))
    where
      go : (t : Bool) → eqb b 48 ≡ t → (0 < value 0 ds → without_zeros false (ds ++ (letter ∷ rest)) ≡ decimal (value 0 ds) ++ (letter ∷ without_zeros false rest))
          → cond t (without_zeros false (ds ++ (letter ∷ rest))) (b ∷ without_zeros true (ds ++ (letter ∷ rest))) ≡ decimal (value (0 * 10 + (b - 48)) ds) ++ (letter ∷ without_zeros false rest)
      go true q ih =
          let e = eqb-true b 48 q in
          let z : 0 * 10 + (b - 48) ≡ 0 = omega arith in
          let s : 0 < value 0 ds = subst (λ (m : ℕ). 0 < value m ds) z h in
          rw z (ih s)
      go false q ih =
          let n = eqb-false b 48 q in
          let low = d.0.least in
          let top = d.0.most in
          let m : ℕ = 0 * 10 + (b - 48) in
          let c : 48 + m ≡ b = omega arith in
          ap (λ (l : List ℕ). b ∷ l) (kept_run ds d.1)
          ∙ sym (ap (λ (l : List ℕ). l ++ (letter ∷ without_zeros false rest)) (decimal_run ds m (omega arith) d.1 ∙ ap (λ (l : List ℕ). l ++ ds) (decimal_one m (omega arith) ∙ ap (λ (k : ℕ). k ∷ []) c)))

text_bare : {s xs : List ℕ} → Spells s xs → Each (λ o. 0 < len_of o) xs → text_of xs ≡ without_zeros false s
unfolding text_of op_text letter_of without_zeros
text_bare Spells.end h = refl
text_bare (Spells.op d ds c {s} {ops} a k t) h =
    let v = value 0 (d ∷ ds) in
    let l = get_or letters c 0 in
    let n : len_of (op_of v c) ≡ v = omega arith in
    let e : code_of (op_of v c) ≡ c = omega arith in
    let some : 0 < v = omega (arith, h.0) in
    rw (n, e) (append_assoc (decimal v) (l ∷ []) (text_of ops) ∙ ap (λ (u : List ℕ). decimal v ++ (l ∷ u)) (text_bare t h.1))
    ∙ sym (zero_run l s (letter_digit c k) (d ∷ ds) a some)

pub print_read : (s : List ℕ) → strict s ≡ true → (any_bad (text_ops s) ≡ false) × (text_of (text_ops s) ≡ without_zeros false s)
print_read s e =
    let m = accepts s e in
    (printable (text_ops s) m.mapped.codes, text_bare m.spells m.mapped.lengths)
