-- A text by places: what stands at one takes the columns to the next.
use Prim.Native.Nat.{ℕ, ◌+◌, ◌-◌, ◌*◌, ◌≤◌, ◌<◌}
use mathlib.Core.Path.{◌≡◌, refl, sym, ap, ◌∙◌}
use mathlib.Core.Bool.{Bool, true, false, ◌&&◌}
use mathlib.Core.List.{List, [], ◌∷◌}
use mathlib.Core.Logic.{◌⊎◌, inl, inr, ⊎_elim}
use native.Mathlib.Omega.{arith}
use lib.Dec.{ltb}
use borrow.Author.Tests.{ltb-true, ltb-false}
use lib.ListN.{length, get_or, take, drop, length-drop}
use lib.Seq.{get_or-drop, drop-drop}
use Rattle.lists.proofs.Walks.{step, done}
use Rattle.std.specs.Prelude.{None}
use Rattle.lists.proofs.Absurd.{false_true}
use Rattle.sam.specs.Text.{is_digit}
use Rattle.sam.specs.Md.{is_capital, MdColumn, MdColumn.Mismatch, MdColumn.Deleted}
use Rattle.md_rules.specs.Md.{next_place, may_end, fits, well_formed, Within.InNumber, Within.InLetters, columns_from}
use Rattle.md_rules.specs.Rule.{bases}
use Rattle.md_rules.specs.InnerWalk.{Behind, columns_at, ReadAt, FigureAt, all_capital}
use Rattle.md_rules.specs.declared.Place.{Place}
use Rattle.md_rules.specs.declared.Place.TheVariants.{Wants, Number, Caret, Letters}
use Rattle.md_rules.proofs.ByteLaws.{fits_digit, fits_begin, fits_letter, fits_caret, fits_behind, no_begin, only_caret, caret_letters, columns_digit, columns_behind, columns_letter, columns_caret, columns_apart, capitals, LettersAre, letters_are, through, first_letter, digit_capital}

module _ (text : List ℕ) (at : ℕ) where
  pub first-at : get_or text at 0 ≡ get_or (drop at text) 0 0
  first-at = ap (λ (k : ℕ). get_or text k 0) {x = at} {y = at + 0} (omega arith) ∙ sym (get_or-drop at text 0 0)

  -- a number has ended
  pub ended : (n : ℕ) → is_digit (get_or text at 0) ≡ false → columns_from InNumber n (drop at text) ≡ columns_at text at n
  ended n d = columns_apart n (drop at text) (ap is_digit (sym first-at) ∙ d)

  pub past_end : length text ≤ at → is_digit (get_or text at 0) ≡ false
  past_end h = ap is_digit first-at ∙ ap (λ (s : List ℕ). is_digit (get_or s 0 0)) (done text at h)

  pub no_columns : length text ≤ at → columns_from InNumber 0 (drop at text) ≡ []
  unfolding columns_from
  no_columns h = ap (columns_from InNumber 0) (done text at h)

  pub none_begins : length text ≤ at → fits Wants (drop at text) ≡ false
  unfolding fits
  none_begins h = ap (fits Wants) (done text at h)

  pub ends_well : length text ≤ at → fits Number (drop at text) ≡ true
  unfolding fits
  ends_well h = ap (fits Number) (done text at h)

  module _ (b : ℕ) (e : b ≡ get_or text at 0) (h : at < length text) where
    pub digit-columns : (n : ℕ) → is_digit b ≡ true → columns_from InNumber n (drop at text) ≡ columns_from InNumber (n * 10 + (b - 48)) (drop (at + 1) text)
    digit-columns n d = rw (step text at b e h) (columns_digit n b (drop (at + 1) text) d)

    pub digit-fits : is_digit b ≡ true → fits Number (drop at text) ≡ fits Number (drop (at + 1) text)
    digit-fits d = rw (step text at b e h) (fits_digit b (drop (at + 1) text) d)

    pub begin-fits : is_digit b ≡ true → fits Wants (drop at text) ≡ fits Number (drop (at + 1) text)
    begin-fits d = rw (step text at b e h) (fits_begin b (drop (at + 1) text) d)

    pub not-begun : is_digit b ≡ false → fits Wants (drop at text) ≡ false
    not-begun d = rw (step text at b e h) (no_begin b (drop (at + 1) text) d)

    pub letter-columns : is_capital b ≡ true → columns_from InNumber 0 (drop at text) ≡ Mismatch ∷ columns_from InNumber 0 (drop (at + 1) text)
    letter-columns c = rw (step text at b e h) (columns_letter 0 b (drop (at + 1) text) c)

    pub letter-fits : is_capital b ≡ true → fits Number (drop at text) ≡ fits Wants (drop (at + 1) text)
    letter-fits c = rw (step text at b e h) (fits_letter b (drop (at + 1) text) c)

    pub caret-columns : b ≡ 94 → columns_from InNumber 0 (drop at text) ≡ columns_from InLetters 0 (drop (at + 1) text)
    caret-columns c = rw (step text at b e h) (columns_caret 0 b (drop (at + 1) text) c)

    pub caret-fits : b ≡ 94 → fits Number (drop at text) ≡ fits Caret (drop (at + 1) text)
    caret-fits c = rw (step text at b e h) (fits_caret b (drop (at + 1) text) c)

    pub must-caret : is_digit b ≡ false → is_capital b ≡ false → fits Number (drop at text) ≡ true → b ≡ 94
    must-caret d c f = only_caret b (drop (at + 1) text) d c (rw (step text at b e h) at f)

-- ---- the letters behind `^` at a place

module _ (text : List ℕ) (at : ℕ) (h : at < length text) (c : get_or text at 0 ≡ 94) where
  -- of a text that is well formed: a column of as many bases as there are letters
  pub lost_here : fits Number (drop at text) ≡ true → (columns_from InNumber 0 (drop at text) ≡ Deleted (capitals (drop (at + 1) text)) ∷ columns_from InNumber 0 (drop (capitals (drop (at + 1) text)) (drop (at + 1) text))) × LettersAre 0 (drop (at + 1) text)
  lost_here f =
      let l = letters_are 0 (drop (at + 1) text) (caret_letters (drop (at + 1) text) (sym (caret-fits text at _ refl h c) ∙ f)) in
      (caret-columns text at _ refl h c ∙ l.columns ∙ ap (λ (j : ℕ). Deleted j ∷ columns_from InNumber 0 (drop (capitals (drop (at + 1) text)) (drop (at + 1) text))) {x = 0 + capitals (drop (at + 1) text)} {y = capitals (drop (at + 1) text)} (omega arith), l)

  -- of any text: n letters and a digit
  module _ (n : ℕ) (some : 0 < n) (room : at + 1 + n ≤ length text) (all : all_capital (take n (drop (at + 1) text)) ≡ true) (d : is_digit (get_or text (at + 1 + n) 0) ≡ true) where
    behind : drop n (drop (at + 1) text) ≡ drop (at + 1 + n) text
    behind = drop-drop n (at + 1) text

    long : n ≤ length (drop (at + 1) text)
    long = let l = length-drop (at + 1) text in omega arith

    digit-next : (P : List ℕ → Type 0) → ((b : ℕ) (s : List ℕ) → is_digit b ≡ true → P (b ∷ s)) → at + 1 + n < length text → P (drop (at + 1 + n) text)
    digit-next P f k = rw (step text (at + 1 + n) (get_or text (at + 1 + n) 0) refl k) (f (get_or text (at + 1 + n) 0) (drop (at + 1 + n + 1) text) d)

    pub loss-columns : at + 1 + n < length text → columns_from InNumber 0 (drop at text) ≡ Deleted n ∷ columns_from InNumber 0 (drop (at + 1 + n) text)
    loss-columns k =
        caret-columns text at _ refl h c ∙ (through n 0 (drop (at + 1) text) long all).0
        ∙ ap (columns_from InLetters (0 + n)) behind
        ∙ ap (λ (j : ℕ). columns_from InLetters j (drop (at + 1 + n) text)) {x = 0 + n} {y = n} (omega arith)
        ∙ digit-next (λ s. columns_from InLetters n s ≡ Deleted n ∷ columns_from InNumber 0 s) (λ b s g. columns_behind n b s g) k

    pub loss-fits : at + 1 + n < length text → fits Number (drop at text) ≡ fits Wants (drop (at + 1 + n) text)
    loss-fits k =
        caret-fits text at _ refl h c ∙ first_letter n (drop (at + 1) text) some long all ∙ (through n 0 (drop (at + 1) text) long all).1
        ∙ ap (fits Letters) behind
        ∙ digit-next (λ s. fits Letters s ≡ fits Wants s) (λ b s g. fits_behind b s (digit_capital b g)) k

-- a letter more
pub capital_turn : (s : List ℕ) (i : ℕ) (all : Bool) → i < length s
    → (all && all_capital (drop i s)) ≡ ((all && is_capital (get_or s i 0)) && all_capital (drop (i + 1) s))
unfolding all_capital
capital_turn s i all h =
    ap (λ (t : List ℕ). all && all_capital t) (step s i (get_or s i 0) refl h) ∙ go all (is_capital (get_or s i 0)) (all_capital (drop (i + 1) s))
  where
    go : (a b c : Bool) → (a && (b && c)) ≡ ((a && b) && c)
    go true b c = refl
    go false b c = refl

pub no_turn : (s : List ℕ) (i : ℕ) (all : Bool) → length s ≤ i → (all && all_capital (drop i s)) ≡ all
unfolding all_capital
no_turn s i all h = ap (λ (t : List ℕ). all && all_capital t) (done s i h) ∙ go all
  where
    go : (a : Bool) → (a && true) ≡ a
    go true = refl
    go false = refl

-- ---- what a number leads to

module _ (text : List ℕ) (from : ℕ) where
  pub none_there : fits Wants (drop from text) ≡ false → FigureAt text from None
  none_there e f = false_true (sym e ∙ f)

-- behind a letter
pub letter_read : (text : List ℕ) (at n next : ℕ) → Behind text at → at < length text → is_capital (get_or text at 0) ≡ true → ReadAt text (at + 1) n next
    → Behind text next × (columns_from InNumber 0 (drop at text) ≡ Mismatch ∷ columns_at text next n)
letter_read text at n next w h c r =
    (record { inside = r.inside; onward = w.onward ∙ letter-fits text at _ refl h c ∙ r.onward; apart = r.apart }, letter-columns text at _ refl h c ∙ ap (λ (l : List MdColumn). Mismatch ∷ l) r.columns)

-- ---- well formed, byte by byte

pub next_fits : (text : List ℕ) (i : ℕ) (p : Place) → i < length text → fits p (drop i text) ≡ fits (next_place p (get_or text i 0)) (drop (i + 1) text)
unfolding fits
next_fits text i p h = ap (fits p) (step text i (get_or text i 0) refl h)

pub end_fits : (text : List ℕ) (i : ℕ) (p : Place) → length text ≤ i → fits p (drop i text) ≡ may_end p
unfolding fits
end_fits text i p h = ap (fits p) (done text i h)

pub side : (a b : ℕ) → (b ≤ a) ⊎ (a < b)
side a b = go (ltb a b) refl
  where
    go : (t : Bool) → ltb a b ≡ t → (b ≤ a) ⊎ (a < b)
    go true q = inr (ltb-true a b q)
    go false q = inl (ltb-false a b q)

-- ---- what a text has at a place behind a number, where it is well formed

module _ (text : List ℕ) (at : ℕ) (w : Behind text at) (f : well_formed text ≡ true) where
  good : fits Number (drop at text) ≡ true
  good = sym w.onward ∙ f

  -- no letter there: no base
  pub no_letter : (at < length text → is_capital (get_or text at 0) ≡ false) → bases 1 (columns_from InNumber 0 (drop at text)) ≡ false
  unfolding bases
  no_letter c = ⊎_elim
      (λ h. ap (bases 1) (no_columns text at h))
      (λ h. ap (bases 1) (lost_here text at h (must-caret text at _ refl h w.apart (c h) good) good).0)
      (side at (length text))
