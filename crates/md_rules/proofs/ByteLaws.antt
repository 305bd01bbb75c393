-- What a byte does to the place that a text stands at, and to its columns.
use Prim.Native.Nat.{ℕ, zero, suc, ◌+◌, ◌-◌, ◌*◌, ◌≤◌, ◌<◌}
use mathlib.Core.Path.{◌≡◌, refl, sym, ap, ◌∙◌}
use mathlib.Core.Bool.{Bool, true, false, cond, ◌&&◌}
use mathlib.Core.List.{List, [], ◌∷◌, ◌++◌, append-nil}
use native.Mathlib.Omega.{arith}
use lib.ListN.{length, get_or, take, drop, replicate, length-append, length-replicate}
use lib.Dec.{eqb}
use borrow.Author.Tests.{le-leb, lt-leb, eqb-true, ne_eqb}
use Rattle.lists.proofs.Absurd.{false_true}
use Rattle.sam.specs.Text.{is_digit}
use Rattle.sam.specs.Md.{is_capital, MdColumn.Match, MdColumn.Mismatch, MdColumn.Deleted}
use Rattle.sam.proofs.MdLaws.{a_capital}
use Rattle.md_rules.specs.Md.{fits, Within.InNumber, Within.InLetters, columns_from}
use Rattle.md_rules.specs.InnerWalk.{all_capital}
use Rattle.md_rules.specs.declared.Place.TheVariants.{Wants, Number, Caret, Letters, Wrong}

-- a capital letter is no digit and not `^`
pub capital_digit : (b : ℕ) → is_capital b ≡ true → is_digit b ≡ false
capital_digit b e = let c = a_capital b e in rw (le-leb 48 b (omega (arith, c.least)), lt-leb b 57 (omega (arith, c.least)))

pub capital_caret : (b : ℕ) → is_capital b ≡ true → eqb b 94 ≡ false
capital_caret b e = let c = a_capital b e in ne_eqb b 94 (λ z. omega (arith, c.most))

pub digit_capital : (b : ℕ) → is_digit b ≡ true → is_capital b ≡ false
digit_capital b d = go (is_capital b) refl
  where
    go : (t : Bool) → is_capital b ≡ t → t ≡ false
    go true q = false_true (sym (capital_digit b q) ∙ d)
    go false q = refl

-- ---- the grammar

wrong : (s : List ℕ) → fits Wrong s ≡ false
unfolding fits
wrong [] = refl
wrong (b ∷ s) = wrong s

module _ (b : ℕ) (s : List ℕ) where
  pub fits_digit : is_digit b ≡ true → fits Number (b ∷ s) ≡ fits Number s
  unfolding fits
  fits_digit d = rw d

  pub fits_begin : is_digit b ≡ true → fits Wants (b ∷ s) ≡ fits Number s
  unfolding fits
  fits_begin d = rw d

  pub fits_letter : is_capital b ≡ true → fits Number (b ∷ s) ≡ fits Wants s
  unfolding fits
  fits_letter c = rw (capital_digit b c, c)

  pub fits_caret : b ≡ 94 → fits Number (b ∷ s) ≡ fits Caret s
  unfolding fits
  fits_caret e = rw e

  pub fits-first : is_capital b ≡ true → fits Caret (b ∷ s) ≡ fits Letters s
  unfolding fits
  fits-first c = rw c

  pub fits_more : is_capital b ≡ true → fits Letters (b ∷ s) ≡ fits Letters s
  unfolding fits
  fits_more c = rw c

  pub fits_behind : is_capital b ≡ false → fits Letters (b ∷ s) ≡ fits Wants (b ∷ s)
  unfolding fits
  fits_behind c = rw c

  -- what cannot go on is malformed
  pub no_begin : is_digit b ≡ false → fits Wants (b ∷ s) ≡ false
  unfolding fits
  no_begin d = rw d (wrong s)

  pub only_caret : is_digit b ≡ false → is_capital b ≡ false → fits Number (b ∷ s) ≡ true → b ≡ 94
  unfolding fits
  only_caret d c f = go (eqb b 94) refl (rw (d, c) at f)
    where
      go : (t : Bool) → eqb b 94 ≡ t → fits (cond t Caret Wrong) s ≡ true → b ≡ 94
      go true q f = eqb-true b 94 q
      go false q f = false_true (sym (wrong s) ∙ f)

pub begins : (b : ℕ) (s : List ℕ) → fits Wants (b ∷ s) ≡ true → is_digit b ≡ true
begins b s w = go (is_digit b) refl
  where
    go : (t : Bool) → is_digit b ≡ t → is_digit b ≡ true
    go true e = e
    go false e = false_true (sym (no_begin b s e) ∙ w)

pub caret_capital : (b : ℕ) (s : List ℕ) → fits Caret (b ∷ s) ≡ true → is_capital b ≡ true
unfolding fits
caret_capital b s f = go (is_capital b) f
  where
    go : (t : Bool) → fits (cond t Letters Wrong) s ≡ true → t ≡ true
    go true f = refl
    go false f = false_true (sym (wrong s) ∙ f)

pub caret_letters : (s : List ℕ) → fits Caret s ≡ true → fits Letters s ≡ true
unfolding fits
caret_letters [] f = false_true f
caret_letters (b ∷ s) f = go (is_capital b) f
  where
    go : (t : Bool) → fits (cond t Letters Wrong) s ≡ true → fits (cond t Letters (cond (is_digit b) Number Wrong)) s ≡ true
    go true f = f
    go false f = false_true (sym (wrong s) ∙ f)

-- ---- columns

module _ (n b : ℕ) (s : List ℕ) where
  pub columns_digit : is_digit b ≡ true → columns_from InNumber n (b ∷ s) ≡ columns_from InNumber (n * 10 + (b - 48)) s
  unfolding columns_from
  columns_digit d = rw d

  pub columns_more : is_capital b ≡ true → columns_from InLetters n (b ∷ s) ≡ columns_from InLetters (n + 1) s
  unfolding columns_from
  columns_more c = rw (capital_digit b c)

  pub columns_behind : is_digit b ≡ true → columns_from InLetters n (b ∷ s) ≡ Deleted n ∷ columns_from InNumber 0 (b ∷ s)
  unfolding columns_from
  columns_behind d = rw d (ap (λ (k : ℕ). Deleted n ∷ columns_from InNumber k s) {x = b - 48} {y = 0 * 10 + (b - 48)} (omega arith))

  pub columns_letter : is_capital b ≡ true → columns_from InNumber n (b ∷ s) ≡ replicate n Match ++ (Mismatch ∷ columns_from InNumber 0 s)
  unfolding columns_from
  columns_letter c = rw (capital_digit b c, capital_caret b c)

  pub columns_caret : b ≡ 94 → columns_from InNumber n (b ∷ s) ≡ replicate n Match ++ columns_from InLetters 0 s
  unfolding columns_from
  columns_caret e = rw e

-- a number that has ended
pub columns_apart : (n : ℕ) (s : List ℕ) → is_digit (get_or s 0 0) ≡ false → columns_from InNumber n s ≡ replicate n Match ++ columns_from InNumber 0 s
unfolding columns_from
columns_apart n [] d = sym (append-nil (replicate n Match))
columns_apart n (b ∷ s) d = rw d

-- no fewer than the number so far
pub columns_least : (n : ℕ) (s : List ℕ) → n ≤ length (columns_from InNumber n s)
unfolding columns_from
columns_least n [] = omega (arith, length-replicate n Match)
columns_least n (b ∷ s) = go (is_digit b) (columns_least (n * 10 + (b - 48)) s)
  where
    go : (t : Bool) → n * 10 + (b - 48) ≤ length (columns_from InNumber (n * 10 + (b - 48)) s) → n ≤ length (cond t (columns_from InNumber (n * 10 + (b - 48)) s) (replicate n Match ++ cond (eqb b 94) (columns_from InLetters 0 s) (Mismatch ∷ columns_from InNumber 0 s)))
    go true h = omega arith
    go false h = simp (length-append, length-replicate) (omega arith)

-- ---- the letters behind `^`

-- how many there are
unfoldable pub capitals : List ℕ → ℕ
capitals [] = 0
capitals (b ∷ s) = cond (is_capital b) (suc (capitals s)) 0

pub record LettersAre (n : ℕ) (s : List ℕ) : Type 0 where
  pub within : capitals s ≤ length s
  pub columns : columns_from InLetters n s ≡ Deleted (n + capitals s) ∷ columns_from InNumber 0 (drop (capitals s) s)
  pub onward : fits Wants (drop (capitals s) s) ≡ true

no_letters : fits Letters [] ≡ false
unfolding fits
no_letters = refl

pub letters_are : (n : ℕ) (s : List ℕ) → fits Letters s ≡ true → LettersAre n s
unfolding capitals
letters_are n [] f = false_true (sym no_letters ∙ f)
letters_are n (b ∷ s) f = go (is_capital b) refl (λ m g. letters_are m s g)
  where
    go : (t : Bool) → is_capital b ≡ t → ((m : ℕ) → fits Letters s ≡ true → LettersAre m s) → LettersAre n (b ∷ s)
    go true q r =
        let k = r (n + 1) (sym (fits_more b s q) ∙ f) in
        let c : capitals (b ∷ s) ≡ suc (capitals s) = rw q refl in
        record {
          within = rw c (omega (arith, k.within));
          columns = columns_more n b s q ∙ k.columns ∙ rw c (ap (λ (j : ℕ). Deleted j ∷ columns_from InNumber 0 (drop (capitals s) s)) {x = n + 1 + capitals s} {y = n + suc (capitals s)} (omega arith));
          onward = rw c k.onward;
        }
    go false q r =
        let c : capitals (b ∷ s) ≡ 0 = rw q refl in
        let w = sym (fits_behind b s q) ∙ f in
        let d = begins b s w in
        record {
          within = rw c (omega arith);
          columns = columns_behind n b s d ∙ rw c (ap (λ (j : ℕ). Deleted j ∷ columns_from InNumber 0 (b ∷ s)) {x = n} {y = n + 0} (omega arith));
          onward = rw c w;
        }

-- as many letters as there are are capital
pub within_capitals : (n : ℕ) (s : List ℕ) → n ≤ capitals s → all_capital (take n s) ≡ true
unfolding capitals all_capital
within_capitals zero s h = refl
within_capitals (suc n) [] h = absurd (omega arith)
within_capitals (suc n) (b ∷ s) h = go (is_capital b) h (λ g. within_capitals n s g)
  where
    go : (t : Bool) → suc n ≤ cond t (suc (capitals s)) 0 → (n ≤ capitals s → all_capital (take n s) ≡ true) → (t && all_capital (take n s)) ≡ true
    go true h r = r (omega arith)
    go false h r = absurd (omega arith)

-- past n capital letters
pub through : (n k : ℕ) (s : List ℕ) → n ≤ length s → all_capital (take n s) ≡ true
    → (columns_from InLetters k s ≡ columns_from InLetters (k + n) (drop n s)) × (fits Letters s ≡ fits Letters (drop n s))
unfolding all_capital
through zero k s l a = (ap (λ (j : ℕ). columns_from InLetters j s) {x = k} {y = k + 0} (omega arith), refl)
through (suc n) k [] l a = absurd (omega arith)
through (suc n) k (b ∷ s) l a = go (is_capital b) refl a (λ g. through n (k + 1) s (omega arith) g)
  where
    go : (t : Bool) → is_capital b ≡ t → (t && all_capital (take n s)) ≡ true
        → (all_capital (take n s) ≡ true → (columns_from InLetters (k + 1) s ≡ columns_from InLetters (k + 1 + n) (drop n s)) × (fits Letters s ≡ fits Letters (drop n s)))
        → (columns_from InLetters k (b ∷ s) ≡ columns_from InLetters (k + suc n) (drop n s)) × (fits Letters (b ∷ s) ≡ fits Letters (drop n s))
    go true q a r =
        let h = r a in
        (columns_more k b s q ∙ h.0 ∙ ap (λ (j : ℕ). columns_from InLetters j (drop n s)) {x = k + 1 + n} {y = k + suc n} (omega arith), fits_more b s q ∙ h.1)
    go false q a r = false_true a

pub first_letter : (n : ℕ) (s : List ℕ) → 0 < n → n ≤ length s → all_capital (take n s) ≡ true → fits Caret s ≡ fits Letters s
unfolding all_capital
first_letter zero s h l a = absurd (omega arith)
first_letter (suc n) [] h l a = absurd (omega arith)
first_letter (suc n) (b ∷ s) h l a = go (is_capital b) refl a
  where
    go : (t : Bool) → is_capital b ≡ t → (t && all_capital (take n s)) ≡ true → fits Caret (b ∷ s) ≡ fits Letters (b ∷ s)
    go true q a = fits-first b s q ∙ sym (fits_more b s q)
    go false q a = false_true a
