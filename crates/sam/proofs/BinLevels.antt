-- First numbers of levels: 7 * first + 1 is the number of the level's bins, 8^l, which is 2^(3 * l).
use Prim.Native.Nat.{ℕ, zero, suc, ◌+◌, ◌*◌, ◌≤◌, ◌^◌}
use mathlib.Core.Path.{◌≡◌, refl, sym, ap, ◌∙◌}
use native.Mathlib.Omega.{arith}
use native.Mathlib.Nat.{pow-suc}
use lib.Pow.{pow-add, pow_mono}
use Rattle.sam.specs.Bins.{first_of}

cube : (l : ℕ) → 2 ^ (3 * suc l) ≡ 2 ^ (3 * l) * 8
cube l =
    let e : 3 * suc l ≡ 3 * l + 3 = omega arith in
    ap (λ (k : ℕ). 2 ^ k) e ∙ pow-add 2 (3 * l) 3

pub eight : (l : ℕ) → 8 ^ l ≡ 2 ^ (3 * l)
eight zero = refl
eight (suc l) = pow-suc 8 l ∙ ap (λ (n : ℕ). n * 8) (eight l) ∙ sym (cube l)

pub seven : (l : ℕ) → 7 * first_of l + 1 ≡ 2 ^ (3 * l)
unfolding first_of
seven zero = refl
seven (suc l) = let h = seven l in let e = eight l in let c = cube l in omega arith

pub first_next : (l : ℕ) → first_of (suc l) ≡ first_of l + 2 ^ (3 * l)
unfolding first_of
first_next l = ap (λ (n : ℕ). first_of l + n) (eight l)

-- a coarser level's numbers begin before
pub first_mono : {l m : ℕ} → l ≤ m → first_of l ≤ first_of m
first_mono {l} {m} h =
    let a = seven l in
    let b = seven m in
    let p = pow_mono {i = 3 * l} {j = 3 * m} (omega arith) in
    omega arith
