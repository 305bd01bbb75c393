-- A ℤ as two naturals, `up z` less `dn z`, so that `omega` can reason about it: each operation on ℤ is one linear fact of the halves, which goes into
-- omega's list, and `same`, `leℤ`, `ltℤ`, `sfits32` .. turn a fact of the halves back into one of ℤ. Assumes nothing.
use Rattle.std.proofs.Common.{◌≡◌, ℕ, zero, suc, ◌+◌, ◌-◌, ◌<◌, ◌≤◌, Bool, true, false, cond, not, T, ltb, ◌⊎◌, ℤ, pos, negsuc, ◌+ℤ◌, ◌-ℤ◌, neg_ℤ, nat_abs, sym, refl, ap, subst, inl, inr, arith, ltb→lt, nltb→le, w32, w64, Fits, SFits, to_z, ltb-false, ltb-true, le-ltb, lt-ltb, le-leb, leb-false, leb-true}
use Rattle.std.proofs.lemmas.Bool.{cases_lt}
use lib.IntN.{sub_ℕ}
use Rattle.signed.specs.Whole.{raised, natural, twos32, bits32}
use lib.Signed.{le_z, lt_z}
use borrow.Author.Tests.{lt-leb}

abbrev pub up : ℤ → ℕ
up (pos n) = n
up (negsuc n) = 0

abbrev pub dn : ℤ → ℕ
dn (pos n) = 0
dn (negsuc n) = suc n

-- ---- operations

-- a - b, for two naturals
cond_fact : (t : Bool) (a b : ℕ) → (T t → a < b) → (T (not t) → b ≤ a) → up (cond t (negsuc (b - suc a)) (pos (a - b))) + b ≡ dn (cond t (negsuc (b - suc a)) (pos (a - b))) + a
cond_fact true a b f g = let h : a < b = f tt in omega arith
cond_fact false a b f g = let h : b ≤ a = g tt in omega arith

pub less : (a b : ℕ) → up (sub_ℕ a b) + b ≡ dn (sub_ℕ a b) + a
less a b = cond_fact (ltb a b) a b (ltb→lt a b) (nltb→le a b)

pub plus : (a b : ℤ) → up (a +ℤ b) + (dn a + dn b) ≡ dn (a +ℤ b) + (up a + up b)
plus (pos a) (pos b) = omega arith
plus (pos a) (negsuc b) = omega (arith, less a (suc b))
plus (negsuc a) (pos b) = omega (arith, less b (suc a))
plus (negsuc a) (negsuc b) = omega arith

neg_up : (a : ℤ) → up (neg_ℤ a) ≡ dn a
neg_up (pos zero) = refl
neg_up (pos (suc n)) = refl
neg_up (negsuc n) = refl

neg_dn : (a : ℤ) → dn (neg_ℤ a) ≡ up a
neg_dn (pos zero) = refl
neg_dn (pos (suc n)) = refl
neg_dn (negsuc n) = refl

pub minus : (a b : ℤ) → up (a -ℤ b) + (dn a + up b) ≡ dn (a -ℤ b) + (up a + dn b)
minus a b = omega (arith, plus a (neg_ℤ b), neg_up b, neg_dn b)

-- ---- equality and order

pub same : (a b : ℤ) → up a + dn b ≡ up b + dn a → a ≡ b
same (pos a) (pos b) e = ap pos (omega arith)
same (pos a) (negsuc b) e = absurd (no e)
  where
    no : a + suc b ≡ 0 + 0 → ⊥
    no h = omega arith
same (negsuc a) (pos b) e = absurd (no e)
  where
    no : 0 + 0 ≡ b + suc a → ⊥
    no h = omega arith
same (negsuc a) (negsuc b) e = ap negsuc (omega arith)

pub leℤ : (a b : ℤ) → up a + dn b ≤ up b + dn a → le_z a b ≡ true
leℤ (pos a) (pos b) h = le-leb a b (omega arith)
leℤ (pos a) (negsuc b) h = absurd (no h)
  where
    no : a + suc b ≤ 0 + 0 → ⊥
    no h = omega arith
leℤ (negsuc a) (pos b) h = refl
leℤ (negsuc a) (negsuc b) h = le-leb b a (omega arith)

pub gtℤ : (a b : ℤ) → up b + dn a < up a + dn b → le_z a b ≡ false
gtℤ (pos a) (pos b) h = lt-leb a b (omega arith)
gtℤ (pos a) (negsuc b) h = refl
gtℤ (negsuc a) (pos b) h = absurd (no h)
  where
    no : b + suc a < 0 + 0 → ⊥
    no h = omega arith
gtℤ (negsuc a) (negsuc b) h = lt-leb b a (omega arith)

pub ltℤ : (a b : ℤ) → up a + dn b < up b + dn a → lt_z a b ≡ true
ltℤ (pos a) (pos b) h = lt-ltb a b (omega arith)
ltℤ (pos a) (negsuc b) h = absurd (no h)
  where
    no : a + suc b < 0 + 0 → ⊥
    no h = omega arith
ltℤ (negsuc a) (pos b) h = refl
ltℤ (negsuc a) (negsuc b) h = lt-ltb b a (omega arith)

pub geℤ : (a b : ℤ) → up b + dn a ≤ up a + dn b → lt_z a b ≡ false
geℤ (pos a) (pos b) h = le-ltb a b (omega arith)
geℤ (pos a) (negsuc b) h = refl
geℤ (negsuc a) (pos b) h = absurd (no h)
  where
    no : b + suc a ≤ 0 + 0 → ⊥
    no h = omega arith
geℤ (negsuc a) (negsuc b) h = le-ltb b a (omega arith)

-- a test that held or failed, as a fact of the halves
false_true : {A : Type 0} → false ≡ true → A
false_true e = absurd (subst T (sym e) tt)

true_false : {A : Type 0} → true ≡ false → A
true_false e = absurd (subst T e tt)

pub is_lt : (a b : ℤ) → lt_z a b ≡ true → up a + dn b < up b + dn a
is_lt (pos a) (pos b) e = omega (arith, ltb-true a b e)
is_lt (pos a) (negsuc b) e = false_true e
is_lt (negsuc a) (pos b) e = omega arith
is_lt (negsuc a) (negsuc b) e = omega (arith, ltb-true b a e)

pub is_ge : (a b : ℤ) → lt_z a b ≡ false → up b + dn a ≤ up a + dn b
is_ge (pos a) (pos b) e = omega (arith, ltb-false a b e)
is_ge (pos a) (negsuc b) e = omega arith
is_ge (negsuc a) (pos b) e = true_false e
is_ge (negsuc a) (negsuc b) e = omega (arith, ltb-false b a e)

pub is_le : (a b : ℤ) → le_z a b ≡ true → up a + dn b ≤ up b + dn a
is_le (pos a) (pos b) e = omega (arith, leb-true a b e)
is_le (pos a) (negsuc b) e = false_true e
is_le (negsuc a) (pos b) e = omega arith
is_le (negsuc a) (negsuc b) e = omega (arith, leb-true b a e)

pub is_gt : (a b : ℤ) → le_z a b ≡ false → up b + dn a < up a + dn b
is_gt (pos a) (pos b) e = omega (arith, leb-false a b e)
is_gt (pos a) (negsuc b) e = omega arith
is_gt (negsuc a) (pos b) e = true_false e
is_gt (negsuc a) (negsuc b) e = omega (arith, leb-false b a e)

-- one half is 0
pub one_half : (z : ℤ) → (up z ≡ 0) ⊎ (dn z ≡ 0)
one_half (pos n) = inr refl
one_half (negsuc n) = inl refl

-- ---- ranges
pub sfits32 : (z : ℤ) → up z < dn z + 2147483648 → dn z ≤ up z + 2147483648 → SFits w32 z
sfits32 (pos n) h k = record { sfits = omega arith }
sfits32 (negsuc n) h k = record { sfits = omega arith }

pub sfits64 : (z : ℤ) → up z < dn z + 9223372036854775808 → dn z ≤ up z + 9223372036854775808 → SFits w64 z
sfits64 (pos n) h k = record { sfits = omega arith }
sfits64 (negsuc n) h k = record { sfits = omega arith }

pub top32 : (z : ℤ) → SFits w32 z → up z < 2147483648
top32 (pos n) f = omega (arith, f.sfits)
top32 (negsuc n) f = omega arith

pub low32 : (z : ℤ) → SFits w32 z → dn z ≤ 2147483648
low32 (pos n) f = omega arith
low32 (negsuc n) f = omega (arith, f.sfits)

-- what `nat_abs` of a number that is not negative is
pub abs_fact : (z : ℤ) → dn z ≤ up z → nat_abs z + dn z ≡ up z
abs_fact (pos n) h = omega arith
abs_fact (negsuc n) h = absurd (no h)
  where
    no : suc n ≤ 0 → ⊥
    no h = omega arith

pub raise_fact : (z : ℤ) → SFits w32 z → raised z + dn z ≡ up z + 2147483648
unfolding raised
raise_fact (pos n) f = omega arith
raise_fact (negsuc n) f = omega (arith, f.sfits)

-- `natural` as a half
pub natural_up : (z : ℤ) → natural z ≡ up z
natural_up (pos n) = refl
natural_up (negsuc n) = refl

-- `natural` from a test: 0 below 0, else the absolute value, which 64 bits hold
pub natural_below : (z : ℤ) → lt_z z (pos 0) ≡ true → 0 ≡ natural z
natural_below (pos n) e = absurd (omega (arith, ltb-true n 0 e))
natural_below (negsuc n) e = refl

pub natural_abs : (z : ℤ) → lt_z z (pos 0) ≡ false → nat_abs z ≡ natural z
natural_abs (pos n) e = refl
natural_abs (negsuc n) e = true_false e

pub fits_abs : (z : ℤ) → SFits w64 z → lt_z z (pos 0) ≡ false → Fits w64 (nat_abs z)
fits_abs (pos n) f e = record { fits = omega (arith, f.sfits) }
fits_abs (negsuc n) f e = true_false e

-- the number that 32 bits mean, as the library says it, and read back
pub twos_is : (n : ℕ) → n < 4294967296 → to_z w32 n ≡ twos32 n
unfolding twos32
twos_is n h = elim (cases_lt n 2147483648) [ inl k ↦ simp (lt-ltb n 2147483648 k) | inr k ↦ simp (le-ltb n 2147483648 k) (same (negsuc (4294967296 - suc n)) (sub_ℕ n 4294967296) (omega (arith, less n 4294967296))) ]

pub bits32_back : (z : ℤ) → SFits w32 z → twos32 (bits32 z) ≡ z
unfolding twos32
bits32_back (pos n) f = simp (lt-ltb n 2147483648 (omega (arith, f.sfits)))
bits32_back (negsuc n) f =
    simp (le-ltb (4294967295 - n) 2147483648 (omega (arith, f.sfits)))
    (same (sub_ℕ (4294967295 - n) 4294967296) (negsuc n) (omega (arith, less (4294967295 - n) 4294967296, f.sfits)))

pub bits32_below : (z : ℤ) → SFits w32 z → bits32 z < 4294967296
bits32_below (pos n) f = omega (arith, f.sfits)
bits32_below (negsuc n) f = omega arith
