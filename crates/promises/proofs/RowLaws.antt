-- One row of the refusal table: a test of the definition, and the refusal that it gives.
use Prim.Native.Nat.{ℕ, ◌+◌, ◌≤◌}
use Rattle.std.specs.Prelude.{None, Option, Some}
use mathlib.Core.Path.{◌≡◌, refl, sym, subst, ap, ◌∙◌}
use mathlib.Core.Bool.{Bool, true, false, cond, not, ◌||◌}
use mathlib.Core.List.{List, [], ◌∷◌, ◌++◌}
use native.Mathlib.Omega.{arith}
use borrow.Author.Tests.{ltb-false}
use lib.Dec.{T, eqb, ltb}
use lib.ListN.{length, take, drop}
use lib.Seq.{take_at, drop_at}
use lib.IntN.{ℤ, pos, negsuc}
use lib.Signed.{lt_z}
use Rattle.lists.specs.Lists.{splice}
use Rattle.lists.proofs.ListLaws.{length_splice}
use Rattle.signed.specs.Whole.{checked, side_of, sum_at, Below, Within, Above}
use Rattle.answers.specs.Answers.{Told}
use Rattle.answers.specs.Settled.{Outcome, keeps, OutcomeTwo, keeps_both}
use Rattle.promises.specs.Table.{Row, ◌when◌, only, first, refuses, Gives, Fills, GivesFilled, GivesFilledTwo}
use Rattle.promises.specs.Rows.{any_outside, over, no_room, no_room_two}

-- rows under a condition that holds are these rows, and under one that doesn't hold give nothing
only_all : (rows : List Row) → only true rows ≡ rows
only_all [] = refl
only_all (r ∷ rows) = ap (λ (l : List Row). r ∷ l) (only_all rows)

only_none : (rows : List Row) → first (only false rows) ≡ 0
only_none [] = refl
only_none (r ∷ rows) = rw (only_none rows) refl

-- what a refusal tells
abbrev pub number_alone : ℕ → Told
number_alone n = record { number = n; values = [] }

-- a refusal, where its row is the first that holds
pub refusal : {t : Told} {n : ℕ} {rows : List Row} → t ≡ number_alone n → n ≡ first rows → Gives t rows
refusal p e = record { number = ap (λ x. x.number) p ∙ e; alone = λ h. ap (λ x. x.values) p }

-- an answer, where no row holds
pub answer : {t : Told} {rows : List Row} → t.number ≡ 0 → 0 ≡ first rows → Gives t rows
answer p e = record { number = p ∙ e; alone = λ h. absurd (subst T (sym (ap (λ n. not (eqb n 0)) e ∙ h)) tt) }

-- rows with the same first one
pub like : {t : Told} {rows rows' : List Row} → first rows ≡ first rows' → Gives t rows → Gives t rows'
like e q = record { number = q.number ∙ e; alone = λ h. q.alone (ap (λ n. not (eqb n 0)) e ∙ h) }

module _ {A : Type 0} (tell : A → Told) where
  -- x is what the definition goes on to, past the test t, where it gives a with number n
  pub row : (t : Bool) (a x : A) (n : ℕ) {rows : List Row} → tell a ≡ number_alone n → Gives (tell x) rows → Gives (tell (cond t a x)) (n when t ∷ rows)
  row true a x n p q = refusal p refl
  row false a x n p q = like refl q

  -- the same, where what it goes on to is judged past the test alone
  pub row-past : (t : Bool) (a x : A) (n : ℕ) {rows : List Row} → tell a ≡ number_alone n → (t ≡ false → Gives (tell x) rows) → Gives (tell (cond t a x)) (n when t ∷ rows)
  row-past true a x n p q = refusal p refl
  row-past false a x n p q = like refl (q refl)

  -- two tests for one number
  pub row_either : (t u : Bool) (a x : A) (n : ℕ) {rows : List Row} → tell a ≡ number_alone n → Gives (tell x) rows → Gives (tell (cond t a (cond u a x))) ((n when (t || u)) ∷ rows)
  row_either true u a x n p q = refusal p refl
  row_either false u a x n p q = row u a x n p q

  -- a test past which there is an answer, so that the rows behind it are due only where it fails, or only where it holds
  pub row_unless : (t : Bool) (x y : A) {rows : List Row} → (tell x).number ≡ 0 → Gives (tell y) rows → Gives (tell (cond t x y)) (only (not t) rows)
  row_unless true x y {rows} p q = answer p (sym (only_none rows))
  row_unless false x y {rows} p q = like (ap first (sym (only_all rows))) q

  pub row_where : (t : Bool) (x y : A) {rows : List Row} → (tell x).number ≡ 0 → Gives (tell y) rows → Gives (tell (cond t y x)) (only t rows)
  row_where true x y p q = row_unless false x y p q
  row_where false x y p q = row_unless true x y p q

  -- a checked sum, and the sums after it: 4 where it is outside the range
  pub row_sum : (to : Option ℤ → A) (z : ℤ) (zs : List ℤ) → tell (to None) ≡ number_alone 4 → Gives (tell (to (Some z))) (over zs ∷ []) → Gives (tell (to (checked z))) (over (z ∷ zs) ∷ [])
  unfolding checked side_of
  row_sum to z zs p q = by_side (lt_z z (negsuc 2147483647)) (lt_z (pos 2147483647) z)
    where
      by_side : (low high : Bool) → Gives (tell (to (sum_at (cond low Below (cond high Above (Within z)))))) ((4 when (low || high || any_outside zs)) ∷ [])
      by_side true high = refusal p refl
      by_side false true = refusal p refl
      by_side false false = like refl q

-- ---- with an output d lent

splice_fills : (d ys : List ℕ) → length ys ≤ length d → Fills d ys (splice d 0 ys)
unfolding splice
splice_fills d ys h =
    let n = length ys in
    let e : 0 + n ≡ n = omega arith in
    let l : splice d 0 ys ≡ ys ++ drop n d = ap (λ (k : ℕ). ys ++ drop k d) e in
    record {
      first_places = ap (take n) l ∙ take_at ys (drop n d) n refl;
      other_places = ap (drop n) l ∙ drop_at ys (drop n d) n refl;
      as_many = length_splice d 0 ys (omega arith);
    }

module _ {A : Type 0} (tell : A → Told) {d : List ℕ} where
  -- a refusal keeps the output, where its row is the first that holds
  pub kept_refusal : (a : A) {n : ℕ} {rows : List Row} {b : A} {ys : List ℕ} → tell a ≡ number_alone n → n ≡ first rows → eqb n 0 ≡ false → GivesFilled tell (keeps a d) d rows b ys
  kept_refusal a {n} {rows} p e some =
      record { refusal = record { gives = refusal p e; kept = λ h. refl }; answer = λ h. absurd (no h); fills = λ h. absurd (no h) }
    where
      no : refuses rows ≡ false → ⊥
      no h = subst T (sym (ap not some) ∙ ap (λ m. not (eqb m 0)) e ∙ h) tt

  pub like_filled : {x : Outcome A} {rows rows' : List Row} {b : A} {ys : List ℕ} → first rows ≡ first rows' → GivesFilled tell x d rows b ys → GivesFilled tell x d rows' b ys
  like_filled e q =
      record {
        refusal = record { gives = like e q.refusal.gives; kept = λ h. q.refusal.kept (ap (λ n. not (eqb n 0)) e ∙ h) };
        answer = λ h. q.answer (ap (λ n. not (eqb n 0)) e ∙ h);
        fills = λ h. q.fills (ap (λ n. not (eqb n 0)) e ∙ h);
      }

  pub kept_row : (t : Bool) (a : A) (n : ℕ) {x : Outcome A} {rows : List Row} {b : A} {ys : List ℕ} → tell a ≡ number_alone n → eqb n 0 ≡ false
      → GivesFilled tell x d rows b ys → GivesFilled tell (cond t (keeps a d) x) d (n when t ∷ rows) b ys
  kept_row true a n p some q = kept_refusal a p refl some
  kept_row false a n p some q = like_filled refl q

  pub kept_past : (t : Bool) (a : A) (n : ℕ) {x : Outcome A} {rows : List Row} {b : A} {ys : List ℕ} → tell a ≡ number_alone n → eqb n 0 ≡ false
      → (t ≡ false → GivesFilled tell x d rows b ys) → GivesFilled tell (cond t (keeps a d) x) d (n when t ∷ rows) b ys
  kept_past true a n p some q = kept_refusal a p refl some
  kept_past false a n p some q = like_filled refl (q refl)

  -- an answer that keeps the output too, where the test fails, so that the rows behind are due only where it holds
  pub kept_where : (t : Bool) (a : A) {x : Outcome A} {rows : List Row} {b : A} {ys : List ℕ} → (tell a).number ≡ 0
      → GivesFilled tell x d rows b ys → GivesFilled tell (cond (not t) (keeps a d) x) d (only t rows) (cond t b a) (cond t ys [])
  kept_where true a {rows = rows} p q = like_filled (ap first (sym (only_all rows))) q
  kept_where false a {rows = rows} p q =
      record {
        refusal = record { gives = answer p (sym (only_none rows)); kept = λ h. refl };
        answer = λ h. refl;
        fills = λ h. record { first_places = refl; other_places = refl; as_many = refl };
      }

  -- an answer, where no row holds: the list ys
  filled : (ys : List ℕ) (b : A) → (tell b).number ≡ 0 → length ys ≤ length d → GivesFilled tell (record { answer = b; left = splice d 0 ys }) d ((6 when false) ∷ []) b ys
  filled ys b z h =
      record {
        refusal = record { gives = answer z refl; kept = λ (h : false ≡ true). absurd (subst T (sym h) tt) };
        answer = λ h. refl;
        fills = λ _. splice_fills d ys h;
      }

  -- the last row, and past it the list ys
  pub last_row : (ys : List ℕ) (a b : A) → tell a ≡ number_alone 6 → (tell b).number ≡ 0
      → GivesFilled tell (cond (ltb (length d) (length ys)) (keeps a d) (record { answer = b; left = splice d 0 ys })) d (no_room d (length ys) ∷ []) b ys
  last_row ys a b p z = go (ltb (length d) (length ys)) refl
    where
      go : (t : Bool) → ltb (length d) (length ys) ≡ t → GivesFilled tell (cond t (keeps a d) (record { answer = b; left = splice d 0 ys })) d ((6 when t) ∷ []) b ys
      go true e = kept_refusal a p refl refl
      go false e = filled ys b z (ltb-false (length d) (length ys) e)

-- ---- with two outputs d and e lent

module _ {A : Type 0} (tell : A → Told) {d e : List ℕ} where
  pub kept_both : (t : Bool) (a : A) (n : ℕ) {x : OutcomeTwo A} {rows : List Row} {b : A} {ys zs : List ℕ} → tell a ≡ number_alone n → eqb n 0 ≡ false
      → (t ≡ false → GivesFilledTwo tell x d e rows b ys zs) → GivesFilledTwo tell (cond t (keeps_both a d e) x) d e (n when t ∷ rows) b ys zs
  kept_both true a n p some q = record { first_output = kept_refusal tell a p refl some; second_output = kept_refusal tell a p refl some }
  kept_both false a n p some q = record { first_output = like_filled tell refl (q refl).first_output; second_output = like_filled tell refl (q refl).second_output }

  -- the last row, and past it the lists ys and zs, of n elements each
  pub last_both : (n : ℕ) (ys zs : List ℕ) (a b : A) → length ys ≡ n → length zs ≡ n → tell a ≡ number_alone 6 → (tell b).number ≡ 0
      → GivesFilledTwo tell (cond (ltb (length d) n || ltb (length e) n) (keeps_both a d e) (record { answer = b; first = splice d 0 ys; second = splice e 0 zs })) d e (no_room_two d e n ∷ []) b ys zs
  last_both n ys zs a b k l p z = go (ltb (length d) n) refl (ltb (length e) n) refl
    where
      go : (t : Bool) → ltb (length d) n ≡ t → (u : Bool) → ltb (length e) n ≡ u
          → GivesFilledTwo tell (cond (t || u) (keeps_both a d e) (record { answer = b; first = splice d 0 ys; second = splice e 0 zs })) d e ((6 when (t || u)) ∷ []) b ys zs
      go true f u g = record { first_output = kept_refusal tell a p refl refl; second_output = kept_refusal tell a p refl refl }
      go false f true g = record { first_output = kept_refusal tell a p refl refl; second_output = kept_refusal tell a p refl refl }
      go false f false g =
          let x = ltb-false (length d) n f in
          let y = ltb-false (length e) n g in
          record { first_output = filled tell ys b z (omega arith); second_output = filled tell zs b z (omega arith) }
