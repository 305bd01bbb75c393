-- The code's tests are the tables of the definitions: antt computes both for the 16 codes.
use Prim.Native.Nat.{ℕ, ◌/◌, ◌%◌, ◌^◌, ◌<◌, ◌≤◌}
use mathlib.Core.Path.{◌≡◌, refl, ap, ◌∙◌}
use mathlib.Core.Bool.{Bool, true, false, beq}
use native.Mathlib.Omega.{arith}
use lib.Dec.{eqb}
use lib.ListN.{get_or-eq_default}
use Rattle.lists.proofs.Tables.{below, below_same}
use Rattle.sam.specs.Op.{is_ref, is_query}
use Rattle.ops.specs.Ops.{reads, is_read, is_clip}

-- a mask of 32 bits that has the 16 codes twice is tested without taking an op modulo 16 first
twice : (m : ℕ) (p : ℕ → Bool) (o : ℕ) → below (λ d. beq (eqb (m / 2 ^ d % 2) 1) (p (d % 16))) 32 ≡ true → eqb (m / 2 ^ (o % 32) % 2) 1 ≡ p (o % 16)
twice m p o e =
    let h : o % 32 % 16 ≡ o % 16 = omega arith in
    below_same (λ d. eqb (m / 2 ^ d % 2) 1) (λ d. p (d % 16)) 32 (o % 32) e (omega arith) ∙ ap p h

pub ref_bit : (o : ℕ) → eqb (26018189 / 2 ^ (o % 32) % 2) 1 ≡ is_ref (o % 16)
unfolding is_ref
ref_bit o = twice 26018189 is_ref o refl

pub query_bit : (o : ℕ) → eqb (26411411 / 2 ^ (o % 32) % 2) 1 ≡ is_query (o % 16)
unfolding is_query
query_bit o = twice 26411411 is_query o refl

pub clip_code : (o : ℕ) → eqb (o % 16 / 2) 2 ≡ is_clip (o % 16)
unfolding is_clip
clip_code o = below_same (λ d. eqb (d / 2) 2) is_clip 16 (o % 16) refl (omega arith)

pub read_bit : (c : ℕ) → c < 9 → eqb (387 / 2 ^ c % 2) 1 ≡ is_read c
unfolding is_read
read_bit c h = below_same (λ d. eqb (387 / 2 ^ d % 2) 1) is_read 9 c refl h

pub read_none : (c : ℕ) → 9 ≤ c → is_read c ≡ false
unfolding is_read
read_none c h = get_or-eq_default reads false {n = c} h
