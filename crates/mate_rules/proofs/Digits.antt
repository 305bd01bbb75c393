-- Digits as numbers: a run, which is held at 2^31, counts what the number counts, since both count 0 from 2^31 on.
use mathlib.Core.Path.{◌≡◌, refl, sym, ap, ◌∙◌}
use mathlib.Core.Bool.{Bool, true, false}
use mathlib.Core.List.{List, [], ◌∷◌, ◌++◌}
use Prim.Native.Nat.{ℕ, ◌+◌, ◌-◌, ◌*◌, ◌≤◌, ◌<◌, min}
use native.Mathlib.Omega.{arith}
use lib.Dec.{leb}
use borrow.Author.Tests.{leb-true, leb-false, le-leb, lt-leb, lt-ltb, le-ltb}
use Rattle.sam.specs.Text.{Digit, Digits, value, is_digit}
use Rattle.sam.proofs.TextLaws.{digit_is}
use Rattle.mate_rules.specs.Run.{counts_as, push_of}

-- ---- what a number counts

pub count_small : (n : ℕ) → n ≤ 2147483647 → counts_as n ≡ n
unfolding counts_as
count_small n h = rw (le-leb n 2147483647 h)

count_large : (n : ℕ) → 2147483647 < n → counts_as n ≡ 0
unfolding counts_as
count_large n h = rw (lt-leb n 2147483647 h)

-- the same up to 2^31
abbrev Alike : ℕ → ℕ → Type 0
Alike x n = min x 2147483648 ≡ min n 2147483648

count_alike : (x n : ℕ) → Alike x n → counts_as x ≡ counts_as n
count_alike x n e = go (leb x 2147483647) refl
  where
    go : (t : Bool) → leb x 2147483647 ≡ t → counts_as x ≡ counts_as n
    go true q = let h = leb-true x 2147483647 q in ap counts_as (omega arith)
    go false q = let h = leb-false x 2147483647 q in count_large x (omega arith) ∙ sym (count_large n (omega arith))

-- ---- the run

-- a run after digits
abbrev pub run_of : ℕ → List ℕ → ℕ
run_of x [] = x
run_of x (b ∷ ds) = run_of (push_of x b) ds

pub run_snoc : (x : ℕ) (ds : List ℕ) (b : ℕ) → run_of x (ds ++ (b ∷ [])) ≡ push_of (run_of x ds) b
run_snoc x [] b = refl
run_snoc x (d ∷ ds) b = run_snoc (push_of x d) ds b

pub digits_snoc : (ds : List ℕ) (b : ℕ) → Digits ds → Digit b → Digits (ds ++ (b ∷ []))
digits_snoc [] b k d = (d, tt)
digits_snoc (e ∷ ds) b k d = (k.0, digits_snoc ds b k.1 d)

-- a digit more, and the number that is held
pub push_digit : (x b : ℕ) → is_digit b ≡ true → x ≤ 214748364 → push_of x b ≡ x * 10 + (b - 48)
unfolding push_of
push_digit x b e h = rw (e, le-ltb 214748364 x h)

pub push_held : (x b : ℕ) → is_digit b ≡ true → 214748364 < x → push_of x b ≡ 2147483648
unfolding push_of
push_held x b e h = rw (e, lt-ltb 214748364 x h)

push_alike : (x n b : ℕ) → is_digit b ≡ true → Alike x n → Alike (push_of x b) (n * 10 + (b - 48))
push_alike x n b e a = go (leb x 214748364) refl
  where
    go : (t : Bool) → leb x 214748364 ≡ t → Alike (push_of x b) (n * 10 + (b - 48))
    go true q = let h = leb-true x 214748364 q in let p = push_digit x b e h in omega arith
    go false q = let h = leb-false x 214748364 q in let p = push_held x b e (omega arith) in omega arith

run_alike : (ds : List ℕ) (x n : ℕ) → Digits ds → Alike x n → Alike (run_of x ds) (value n ds)
unfolding value
run_alike [] x n k a = a
run_alike (b ∷ ds) x n k a = run_alike ds (push_of x b) (n * 10 + (b - 48)) k.1 (push_alike x n b (digit_is b k.0) a)

-- THE LAW of the run: that it is held does not show
pub run_counts : (ds : List ℕ) → Digits ds → counts_as (run_of 0 ds) ≡ counts_as (value 0 ds)
run_counts ds k = count_alike (run_of 0 ds) (value 0 ds) (run_alike ds 0 0 k refl)
