-- A run of stores in parts; decimal is the last digits, as many as there are.
use Prim.Native.Nat.{ℕ, zero, suc, ◌+◌, ◌-◌, ◌*◌, ◌/◌, ◌%◌, ◌^◌, ◌≤◌, ◌<◌}
use mathlib.Core.Path.{◌≡◌, refl, sym, ap, ◌∙◌, subst}
use mathlib.Core.List.{List, [], ◌∷◌, ◌++◌}
use native.Mathlib.Nat.{add-zero, add-suc, suc-add, mod-eq_of_lt, pow-suc, pow-le-pow_right, le-div_iff_mul-le, div-lt_iff_lt-mul, zero-lt-suc}
use native.Mathlib.Omega.{arith}
use lib.ListN.{length, set, length-append}
use lib.Seq.{sets, set_comm}
use borrow.Author.Tests.{lt-ltb, le-ltb}
use Rattle.decimal.specs.Decimal.{dec, decimal}
use Rattle.decimal.specs.Inner.{Width, last_digits}

module _ {ℓ} {A : Type ℓ} where
  -- a run of stores in two parts
  pub sets_append : (t u l : List A) (i : ℕ) → sets l i (t ++ u) ≡ sets (sets l i t) (i + length t) u
  sets_append [] u l i = ap (λ (k : ℕ). sets l k u) (sym (add-zero i))
  sets_append (a ∷ t) u l i =
      sets_append t u (set l i a) (suc i) ∙ ap (λ (k : ℕ). sets (sets (set l i a) (suc i) t) k u) (suc-add i (length t) ∙ sym (add-suc i (length t)))

  -- a store after a run of stores before it may go first
  pub set_sets : (vs l : List A) (i k : ℕ) (a : A) → i + length vs ≤ k → set (sets l i vs) k a ≡ sets (set l k a) i vs
  set_sets [] l i k a h = refl
  set_sets (b ∷ vs) l i k a h =
      set_sets vs (set l i b) (suc i) k a (omega arith)
      ∙ ap (λ (m : List A). sets m (suc i) vs) (set_comm l i k b a (omega arith))

pub length_digits : (k n : ℕ) → length (last_digits k n) ≡ k
unfolding last_digits
length_digits zero n = refl
length_digits (suc k) n = length-append (last_digits k (n / 10)) _ ∙ omega (arith, length_digits k (n / 10))

-- a turn of the loop that puts digits from the right, of which the next goes before place i
pub digits_turn : (i at n : ℕ) (l : List ℕ) → at < i → sets (set l (i - 1) (48 + n % 10)) at (last_digits (i - 1 - at) (n / 10)) ≡ sets l at (last_digits (i - at) n)
unfolding last_digits
digits_turn i at n l h =
    let j : ℕ = i - 1 - at in
    let e : length (last_digits j (n / 10)) ≡ j = length_digits j (n / 10) in
    sym (set_sets (last_digits j (n / 10)) l at (i - 1) (48 + n % 10) (omega arith))
    ∙ ap (λ (k : ℕ). set (sets l at (last_digits j (n / 10))) k (48 + n % 10)) {x = i - 1} {y = at + length (last_digits j (n / 10))} (omega arith)
    ∙ sym (sets_append (last_digits j (n / 10)) ((48 + n % 10) ∷ []) l at)
    ∙ ap (λ (k : ℕ). sets l at (last_digits k n)) {x = suc j} {y = i - at} (omega arith)

dec_digits : (k f n : ℕ) → k ≤ f → n < 10 ^ suc k → (0 < k → 10 ^ k ≤ n) → dec (suc f) n ≡ last_digits (suc k) n
unfolding dec last_digits
dec_digits zero f n h lt le = rw (lt-ltb n 10 lt, mod-eq_of_lt {n = n} {m = 10} lt)
dec_digits (suc k) zero n h lt le = absurd (omega arith)
dec_digits (suc k) (suc f) n h lt le =
    let low : 10 ^ k * 10 ≤ n = subst (λ (x : ℕ). x ≤ n) (pow-suc 10 k) (le (zero-lt-suc k)) in
    let one : 1 ≤ 10 ^ k = pow-le-pow_right {n = 10} (zero-lt-suc 9) {i = 0} {j = k} (omega arith) in
    let ge : 10 ≤ n = omega arith in
    rw (le-ltb n 10 ge)
    (ap (λ (l : List ℕ). l ++ ((48 + n % 10) ∷ []))
    (dec_digits k f (n / 10) (omega arith)
    ((div-lt_iff_lt-mul {k = 10} (zero-lt-suc 9)).1 (subst (λ (x : ℕ). n < x) (pow-suc 10 (suc k)) lt))
    (λ _. (le-div_iff_mul-le {k = 10} (zero-lt-suc 9)).1 low)))

below_power : (k : ℕ) → k < 10 ^ k
below_power zero = omega arith
below_power (suc k) = let ih = below_power k in let p = pow-suc 10 k in omega arith

-- a number of k + 1 digits
decimal_is : (n k : ℕ) → n < 10 ^ suc k → (0 < k → 10 ^ k ≤ n) → decimal n ≡ last_digits (suc k) n
unfolding decimal
decimal_is n zero lt le = dec_digits 0 n n (omega arith) lt le
decimal_is n (suc k) lt le = let b = below_power (suc k) in let h = le (zero-lt-suc k) in dec_digits (suc k) n n (omega arith) lt le

pub decimal-digits : (n r : ℕ) → Width n r → decimal n ≡ last_digits r n
decimal-digits n zero w = absurd (omega (arith, w.some))
decimal-digits n (suc k) w =
    decimal_is n k w.below (λ h. subst (λ (x : ℕ). 10 ^ x ≤ n) {x = suc k - 1} {y = k} (omega arith) (w.least (omega arith)))
