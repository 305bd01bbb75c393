-- Decimal is digits whose number is the number, with no zero ahead.
use Prim.Native.Nat.{ℕ, zero, suc, ◌+◌, ◌-◌, ◌*◌, ◌/◌, ◌%◌, ◌≤◌, ◌<◌}
use mathlib.Core.Path.{◌≡◌, refl, sym, ap, ◌∙◌}
use mathlib.Core.Bool.{Bool, true, false, cond}
use mathlib.Core.List.{List, [], ◌∷◌, ◌++◌}
use native.Mathlib.Omega.{arith}
use lib.Dec.{ltb}
use borrow.Author.Tests.{lt-ltb, le-ltb, ltb-true, ltb-false}
use Rattle.lists.proofs.EachLaws.{each_append}
use Rattle.sam.specs.Text.{Digit, Digits, value}
use Rattle.decimal.specs.Decimal.{dec, decimal}

-- ---- digits, and one digit more

pub value_more : (ds : List ℕ) (m b : ℕ) → value m (ds ++ (b ∷ [])) ≡ value m ds * 10 + (b - 48)
unfolding value
value_more [] m b = refl
value_more (d ∷ ds) m b = value_more ds (m * 10 + (d - 48)) b

digit_of : (n : ℕ) → n < 10 → Digit (48 + n)
digit_of n h = record { least = omega arith; most = omega arith }

-- a list that has a first element
pub record Led (xs : List ℕ) : Type 0 where
  pub first : ℕ
  pub rest : List ℕ
  pub is : xs ≡ first ∷ rest

led_more : (xs : List ℕ) (b : ℕ) → Led (xs ++ (b ∷ []))
led_more [] b = record { first = b; rest = []; is = refl }
led_more (x ∷ xs) b = record { first = x; rest = xs ++ (b ∷ []); is = refl }

-- ---- decimal

-- what the digits of n are: n, and no zero ahead of other digits
pub record Means (n : ℕ) (ds : List ℕ) : Type 0 where
  pub number : value 0 ds ≡ n
  pub digits : Digits ds
  pub led : Led ds
  pub no_zero : (b : ℕ) (rest : List ℕ) → ds ≡ b ∷ rest → b ≡ 48 → n ≡ 0

means_one : (n : ℕ) → n < 10 → Means n ((48 + n) ∷ [])
unfolding value
means_one n h = record {
  number = omega arith;
  digits = (digit_of n h, tt);
  led = record { first = 48 + n; rest = []; is = refl };
  no_zero = λ b rest e z. let f : 48 + n ≡ b = cc in omega arith;
}

means_more : (n : ℕ) (ds : List ℕ) → 10 ≤ n → Means (n / 10) ds → Means n (ds ++ ((48 + n % 10) ∷ []))
means_more n ds h m = record {
  number = value_more ds 0 (48 + n % 10) ∙ rw m.number (omega arith);
  digits = each_append Digit ds ((48 + n % 10) ∷ []) m.digits (digit_of (n % 10) (omega arith), tt);
  led = led_more ds (48 + n % 10);
  no_zero = λ b rest e z.
      let l = m.led in
      let f : l.first ∷ (l.rest ++ ((48 + n % 10) ∷ [])) ≡ b ∷ rest = sym (ap (λ (xs : List ℕ). xs ++ ((48 + n % 10) ∷ [])) l.is) ∙ e in
      let g : l.first ≡ b = cc in
      let y = m.no_zero l.first l.rest l.is (g ∙ z) in
      absurd (omega arith);
}

dec_means : (bound n : ℕ) → n < bound → Means n (dec bound n)
unfolding dec
dec_means zero n h = absurd (omega arith)
dec_means (suc bound) n h = go (ltb n 10) refl (dec_means bound (n / 10))
  where
    go : (t : Bool) → ltb n 10 ≡ t → (n / 10 < bound → Means (n / 10) (dec bound (n / 10))) → Means n (cond t ((48 + n) ∷ []) (dec bound (n / 10) ++ ((48 + n % 10) ∷ [])))
    go true q ih = means_one n (ltb-true n 10 q)
    go false q ih = let g = ltb-false n 10 q in means_more n (dec bound (n / 10)) g (ih (omega arith))

pub decimal_means : (n : ℕ) → Means n (decimal n)
unfolding decimal
decimal_means n = dec_means (suc n) n (omega arith)

-- "without leading zeros; length 0 prints as 0": only 0 begins with the byte 48
pub no_leading_zero : (n b : ℕ) (rest : List ℕ) → decimal n ≡ b ∷ rest → b ≡ 48 → n ≡ 0
no_leading_zero n b rest e z = (decimal_means n).no_zero b rest e z

pub decimal_value : (n : ℕ) → value 0 (decimal n) ≡ n
decimal_value n = (decimal_means n).number

-- ---- decimal by one digit more

pub decimal_one : (n : ℕ) → n < 10 → decimal n ≡ (48 + n) ∷ []
unfolding decimal dec
decimal_one n h = rw (lt-ltb n 10 h)

dec_enough : (f g n : ℕ) → n < f → n < g → dec f n ≡ dec g n
unfolding dec
dec_enough zero g n h k = absurd (omega arith)
dec_enough (suc f) zero n h k = absurd (omega arith)
dec_enough (suc f) (suc g) n h k = go (ltb n 10) refl (dec_enough f g (n / 10))
  where
    go : (t : Bool) → ltb n 10 ≡ t → (n / 10 < f → n / 10 < g → dec f (n / 10) ≡ dec g (n / 10))
        → cond t ((48 + n) ∷ []) (dec f (n / 10) ++ ((48 + n % 10) ∷ [])) ≡ cond t ((48 + n) ∷ []) (dec g (n / 10) ++ ((48 + n % 10) ∷ []))
    go true q ih = refl
    go false q ih = let l = ltb-false n 10 q in ap (λ (ds : List ℕ). ds ++ ((48 + n % 10) ∷ [])) (ih (omega arith) (omega arith))

pub decimal_more : (m b : ℕ) → 0 < m → Digit b → decimal (m * 10 + (b - 48)) ≡ decimal m ++ (b ∷ [])
unfolding decimal dec
decimal_more m b h d =
    let x : ℕ = m * 10 + (b - 48) in
    let low = d.least in
    let top = d.most in
    let q : x / 10 ≡ m = omega arith in
    let r : 48 + x % 10 ≡ b = omega arith in
    rw (le-ltb x 10 (omega arith), q, r)
    (ap (λ (ds : List ℕ). ds ++ (b ∷ [])) (dec_enough x (suc m) m (omega arith) (omega arith)))
