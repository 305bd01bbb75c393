-- The account of a text byte by byte is the specification's grammar, and its columns are those that the grammar has.
use Prim.Native.Nat.{ℕ, suc, ◌+◌, ◌-◌, ◌*◌}
use mathlib.Core.Path.{◌≡◌, refl, sym, ap, ◌∙◌, subst}
use mathlib.Core.Bool.{Bool, true, false}
use mathlib.Core.List.{List, [], ◌∷◌, ◌++◌, append_assoc, append-nil}
use native.Mathlib.Omega.{arith}
use lib.ListN.{length, replicate, length-append}
use Rattle.lists.proofs.Absurd.{false_true}
use Rattle.lists.proofs.EachLaws.{each_append}
use Rattle.sam.specs.Text.{Digit, Digits, is_digit, value}
use Rattle.sam.specs.Md.{Capital, Capitals, is_capital, MdColumn, MdColumn.Match, MdColumn.Mismatch, MdColumn.Deleted, SpellsMd, SpellsMd.number, SpellsMd.letter, SpellsMd.caret}
use Rattle.sam.proofs.TextLaws.{digit_is, a_digit}
use Rattle.sam.proofs.MdLaws.{is-capital, a_capital}
use Rattle.md_rules.specs.Md.{fits, well_formed, Within.InNumber, Within.InLetters, columns_from, columns_of}
use Rattle.md_rules.specs.declared.Place.TheVariants.{Wants, Number, Caret, Letters}
use Rattle.md_rules.proofs.ByteLaws.{fits_digit, fits_begin, fits_letter, fits_caret, fits-first, fits_more, fits_behind, begins, only_caret, caret_capital, columns_digit, columns_more, columns_behind, columns_letter, columns_caret, digit_capital}

-- ---- a text of the grammar is well formed

digits-run : (ds : List ℕ) (n : ℕ) (s : List ℕ) → Digits ds → (fits Number (ds ++ s) ≡ fits Number s) × (columns_from InNumber n (ds ++ s) ≡ columns_from InNumber (value n ds) s)
unfolding value
digits-run [] n s h = (refl, refl)
digits-run (d ∷ ds) n s h =
    let e = digit_is d h.0 in
    let r = digits-run ds (n * 10 + (d - 48)) s h.1 in
    (fits_digit d (ds ++ s) e ∙ r.0, columns_digit n d (ds ++ s) e ∙ r.1)

number_run : (d : ℕ) (ds s : List ℕ) → Digits (d ∷ ds) → (fits Wants ((d ∷ ds) ++ s) ≡ fits Number s) × (columns_from InNumber 0 ((d ∷ ds) ++ s) ≡ columns_from InNumber (value 0 (d ∷ ds)) s)
unfolding value
number_run d ds s h =
    let e = digit_is d h.0 in
    let r = digits-run ds (0 * 10 + (d - 48)) s h.1 in
    (fits_begin d (ds ++ s) e ∙ r.0, columns_digit 0 d (ds ++ s) e ∙ r.1)

capitals_run : (bs : List ℕ) (n : ℕ) (s : List ℕ) → Capitals bs → (fits Letters (bs ++ s) ≡ fits Letters s) × (columns_from InLetters n (bs ++ s) ≡ columns_from InLetters (n + length bs) s)
capitals_run [] n s h = (refl, ap (λ (k : ℕ). columns_from InLetters k s) {x = n} {y = n + 0} (omega arith))
capitals_run (b ∷ bs) n s h =
    let e = is-capital b h.0 in
    let r = capitals_run bs (n + 1) s h.1 in
    (fits_more b (bs ++ s) e ∙ r.0, columns_more n b (bs ++ s) e ∙ r.1 ∙ ap (λ (k : ℕ). columns_from InLetters k s) {x = n + 1 + length bs} {y = n + suc (length bs)} (omega arith))

no_number : fits Wants [] ≡ false
unfolding fits
no_number = refl

behind_letters : (n : ℕ) (s : List ℕ) → fits Wants s ≡ true → (fits Letters s ≡ true) × (columns_from InLetters n s ≡ Deleted n ∷ columns_from InNumber 0 s)
behind_letters n [] f = false_true (sym no_number ∙ f)
behind_letters n (b ∷ s) f = let d = begins b s f in (fits_behind b s (digit_capital b d) ∙ f, columns_behind n b s d)

pub spelled : {s : List ℕ} {cs : List MdColumn} → SpellsMd s cs → (well_formed s ≡ true) × (columns_of s ≡ cs)
unfolding fits columns_from
spelled (number d ds h) =
    let r = number_run d ds [] h in
    let e = append-nil (d ∷ ds) in
    (ap (fits Wants) (sym e) ∙ r.0, ap (columns_from InNumber 0) (sym e) ∙ r.1)
spelled (letter d ds b {s} {cs} h c t) =
    let r = number_run d ds (b ∷ s) h in
    let e = is-capital b c in
    let i = spelled t in
    (r.0 ∙ fits_letter b s e ∙ i.0, r.1 ∙ columns_letter (value 0 (d ∷ ds)) b s e ∙ ap (λ (l : List MdColumn). replicate (value 0 (d ∷ ds)) Match ++ (Mismatch ∷ l)) i.1)
spelled (caret d ds b bs {s} {cs} h c t) =
    let r = number_run d ds (94 ∷ ((b ∷ bs) ++ s)) h in
    let i = spelled t in
    let l = behind_letters (length (b ∷ bs)) s i.0 in
    let k = capitals_run (b ∷ bs) 0 s c in
    let m = capitals_run bs 0 s c.1 in (
      r.0 ∙ fits_caret 94 ((b ∷ bs) ++ s) refl ∙ fits-first b (bs ++ s) (is-capital b c.0) ∙ m.0 ∙ l.0,
      r.1 ∙ columns_caret (value 0 (d ∷ ds)) 94 ((b ∷ bs) ++ s) refl
          ∙ ap (λ (x : List MdColumn). replicate (value 0 (d ∷ ds)) Match ++ x)
          (k.1 ∙ ap (λ (j : ℕ). columns_from InLetters j s) {x = 0 + length (b ∷ bs)} {y = length (b ∷ bs)} (omega arith) ∙ l.1 ∙ ap (λ (x : List MdColumn). Deleted (length (b ∷ bs)) ∷ x) i.1),
    )

-- ---- a well formed text is one of the grammar

value_snoc : (ds : List ℕ) (n b : ℕ) → value n (ds ++ (b ∷ [])) ≡ value n ds * 10 + (b - 48)
unfolding value
value_snoc [] n b = refl
value_snoc (d ∷ ds) n b = value_snoc ds (n * 10 + (d - 48)) b

-- what is left of a text, behind a number that was read, behind it and `^`, or behind these and letters
abbrev Whole : ℕ → List ℕ → List ℕ → Type 0
Whole d ds s = fits Number s ≡ true → SpellsMd ((d ∷ ds) ++ s) (columns_from InNumber (value 0 (d ∷ ds)) s)

record Readable (s : List ℕ) : Type 0 where
  wants : fits Wants s ≡ true → SpellsMd s (columns_from InNumber 0 s)
  in_number : (d : ℕ) (ds : List ℕ) → Digits (d ∷ ds) → Whole d ds s
  behind_caret : (d : ℕ) (ds : List ℕ) → Digits (d ∷ ds) → fits Caret s ≡ true → SpellsMd ((d ∷ ds) ++ (94 ∷ s)) (replicate (value 0 (d ∷ ds)) Match ++ columns_from InLetters 0 s)
  in_letters : (d : ℕ) (ds : List ℕ) (b : ℕ) (bs : List ℕ) → Digits (d ∷ ds) → Capitals (b ∷ bs) → fits Letters s ≡ true
      → SpellsMd ((d ∷ ds) ++ (94 ∷ ((b ∷ bs) ++ s))) (replicate (value 0 (d ∷ ds)) Match ++ columns_from InLetters (length (b ∷ bs)) s)

readable_end : Readable []
unfolding fits columns_from
readable_end =
    record {
      wants = λ f. false_true f;
      in_number = λ d ds h f. subst (λ (s : List ℕ). SpellsMd s (replicate (value 0 (d ∷ ds)) Match)) (sym (append-nil (d ∷ ds))) (number d ds h);
      behind_caret = λ d ds h f. false_true f;
      in_letters = λ d ds b bs h c f. false_true f;
    }

module _ (x : ℕ) (s : List ℕ) (r : Readable s) where
  -- a digit more
  more_digits : is_digit x ≡ true → (d : ℕ) (ds : List ℕ) → Digits (d ∷ ds) → Whole d ds (x ∷ s)
  unfolding value
  more_digits q d ds h f =
      let v = r.in_number d (ds ++ (x ∷ [])) (h.0, each_append Digit ds (x ∷ []) h.1 (a_digit x q, tt)) (sym (fits_digit x s q) ∙ f) in
      subst (λ (t : List ℕ). SpellsMd t (columns_from InNumber (value 0 (d ∷ ds)) (x ∷ s))) (append_assoc (d ∷ ds) (x ∷ []) s)
      (subst (SpellsMd ((d ∷ (ds ++ (x ∷ []))) ++ s)) (ap (λ (k : ℕ). columns_from InNumber k s) (value_snoc (d ∷ ds) 0 x) ∙ sym (columns_digit (value 0 (d ∷ ds)) x s q)) v)

  first_digit : is_digit x ≡ true → fits Wants (x ∷ s) ≡ true → SpellsMd (x ∷ s) (columns_from InNumber 0 (x ∷ s))
  unfolding value
  first_digit q f = subst (SpellsMd (x ∷ s)) (sym (columns_digit 0 x s q)) (r.in_number x [] (a_digit x q, tt) (sym (fits_begin x s q) ∙ f))

  a_letter : is_capital x ≡ true → (d : ℕ) (ds : List ℕ) → Digits (d ∷ ds) → Whole d ds (x ∷ s)
  a_letter q d ds h f = subst (SpellsMd ((d ∷ ds) ++ (x ∷ s))) (sym (columns_letter (value 0 (d ∷ ds)) x s q)) (letter d ds x h (a_capital x q) (r.wants (sym (fits_letter x s q) ∙ f)))

  a_caret : is_digit x ≡ false → is_capital x ≡ false → (d : ℕ) (ds : List ℕ) → Digits (d ∷ ds) → Whole d ds (x ∷ s)
  a_caret q c d ds h f =
      let e = only_caret x s q c f in
      subst (SpellsMd ((d ∷ ds) ++ (x ∷ s))) (sym (columns_caret (value 0 (d ∷ ds)) x s e))
      (subst (λ (y : ℕ). SpellsMd ((d ∷ ds) ++ (y ∷ s)) (replicate (value 0 (d ∷ ds)) Match ++ columns_from InLetters 0 s)) (sym e) (r.behind_caret d ds h (sym (fits_caret x s e) ∙ f)))

  more_letters : is_capital x ≡ true → (d : ℕ) (ds : List ℕ) (b : ℕ) (bs : List ℕ) → Digits (d ∷ ds) → Capitals (b ∷ bs) → fits Letters (x ∷ s) ≡ true
      → SpellsMd ((d ∷ ds) ++ (94 ∷ ((b ∷ bs) ++ (x ∷ s)))) (replicate (value 0 (d ∷ ds)) Match ++ columns_from InLetters (length (b ∷ bs)) (x ∷ s))
  more_letters q d ds b bs h c f =
      let v = r.in_letters d ds b (bs ++ (x ∷ [])) h (c.0, each_append Capital bs (x ∷ []) c.1 (a_capital x q, tt)) (sym (fits_more x s q) ∙ f) in
      let n : length (b ∷ (bs ++ (x ∷ []))) ≡ length (b ∷ bs) + 1 = let k = length-append bs (x ∷ []) in omega arith in
      subst (λ (t : List ℕ). SpellsMd ((d ∷ ds) ++ (94 ∷ t)) (replicate (value 0 (d ∷ ds)) Match ++ columns_from InLetters (length (b ∷ bs)) (x ∷ s))) (append_assoc (b ∷ bs) (x ∷ []) s)
      (subst (λ (l : List MdColumn). SpellsMd ((d ∷ ds) ++ (94 ∷ ((b ∷ (bs ++ (x ∷ []))) ++ s))) (replicate (value 0 (d ∷ ds)) Match ++ l))
      (ap (λ (k : ℕ). columns_from InLetters k s) n ∙ sym (columns_more (length (b ∷ bs)) x s q)) v)

  behind_them : is_digit x ≡ true → (d : ℕ) (ds : List ℕ) (b : ℕ) (bs : List ℕ) → Digits (d ∷ ds) → Capitals (b ∷ bs) → fits Letters (x ∷ s) ≡ true
      → SpellsMd ((d ∷ ds) ++ (94 ∷ ((b ∷ bs) ++ (x ∷ s)))) (replicate (value 0 (d ∷ ds)) Match ++ columns_from InLetters (length (b ∷ bs)) (x ∷ s))
  behind_them q d ds b bs h c f =
      subst (λ (l : List MdColumn). SpellsMd ((d ∷ ds) ++ (94 ∷ ((b ∷ bs) ++ (x ∷ s)))) (replicate (value 0 (d ∷ ds)) Match ++ l)) (sym (columns_behind (length (b ∷ bs)) x s q))
      (caret d ds b bs h c (first_digit q (sym (fits_behind x s (digit_capital x q)) ∙ f)))

  readable_more : (t : Bool) → is_digit x ≡ t → (u : Bool) → is_capital x ≡ u → Readable (x ∷ s)
  readable_more true q u c =
      record {
        wants = first_digit q;
        in_number = more_digits q;
        behind_caret = λ d ds h f. false_true (sym (digit_capital x q) ∙ caret_capital x s f);
        in_letters = behind_them q;
      }
  readable_more false q true c =
      record {
        wants = λ f. false_true (sym q ∙ begins x s f);
        in_number = a_letter c;
        behind_caret = λ d ds h f.
            subst (λ (l : List MdColumn). SpellsMd ((d ∷ ds) ++ (94 ∷ (x ∷ s))) (replicate (value 0 (d ∷ ds)) Match ++ l)) (sym (columns_more 0 x s c))
            (r.in_letters d ds x [] h (a_capital x c, tt) (sym (fits-first x s c) ∙ f));
        in_letters = more_letters c;
      }
  readable_more false q false c =
      record {
        wants = λ f. false_true (sym q ∙ begins x s f);
        in_number = a_caret q c;
        behind_caret = λ d ds h f. false_true (sym c ∙ caret_capital x s f);
        in_letters = λ d ds b bs h e f. false_true (sym q ∙ begins x s (sym (fits_behind x s c) ∙ f));
      }

readable : (s : List ℕ) → Readable s
readable [] = readable_end
readable (x ∷ s) = readable_more x s (readable s) (is_digit x) refl (is_capital x) refl

pub spells : (s : List ℕ) → well_formed s ≡ true → SpellsMd s (columns_of s)
spells s f = (readable s).wants f
