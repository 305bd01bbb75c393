-- On 0 ≤ beg < end ≤ 2^29 the answer of `reg2bin` is the smallest bin that holds the region: the case 14 and 5 of `sam`'s law over min_shift and depth.
use Prim.Native.Nat.{ℕ, zero, suc, ◌+◌, ◌-◌, ◌/◌, ◌%◌, ◌≤◌, ◌<◌, ◌^◌}
use Rattle.std.specs.Prelude.{Ok}
use mathlib.Core.Path.{◌≡◌, refl, sym, ap, ◌∙◌, subst}
use mathlib.Core.Bool.{Bool, true, false, cond}
use mathlib.Core.List.{List, [], ◌∷◌}
use native.Mathlib.Omega.{arith}
use lib.Dec.{eqb}
use lib.IntN.{pos, ◌-ℤ◌}
use Rattle.signed.proofs.Halves.{minus, same}
use Rattle.signed.proofs.Ranges.{checked_in}
use Rattle.signed.specs.Equal.{eqℤ}
use Rattle.bin_rules.specs.Bin.{Shift, shifts, low16, first_agreed, bin_of, bin_to, reg2bin}
use Rattle.sam.specs.Bins.{first_of, SmallestBin, bin_up}
use Rattle.sam.proofs.BinLaws as Bins

-- the levels from the finest on, as `reg2bin` lists them
abbrev upwards : ℕ → ℕ → List Shift
upwards zero shift = []
upwards (suc l) shift = record { shift = shift; offset = first_of (suc l) } ∷ upwards l (shift + 3)

bai_shifts : upwards 5 14 ≡ shifts
unfolding first_of
bai_shifts = refl

-- the first agreement in that list is the rule over levels left
climbed : (l shift beg last : ℕ) → first_agreed (upwards l shift) (pos beg) (pos last) ≡ pos (bin_up l shift beg last)
unfolding first_agreed bin_up eqℤ
climbed zero shift beg last = refl
climbed (suc l) shift beg last = go (eqb (beg / 2 ^ shift) (last / 2 ^ shift)) (climbed l (shift + 3) beg last)
  where
    go : (t : Bool) → first_agreed (upwards l (shift + 3)) (pos beg) (pos last) ≡ pos (bin_up l (shift + 3) beg last)
        → cond t (pos (first_of (suc l) + beg / 2 ^ shift)) (first_agreed (upwards l (shift + 3)) (pos beg) (pos last)) ≡ pos (cond t (first_of (suc l) + beg / 2 ^ shift) (bin_up l (shift + 3) beg last))
    go true e = refl
    go false e = e

module _ (beg end : ℕ) (h : beg < end) (g : end ≤ 536870912) where
  -- a bin's number has 16 bits: the bin that the code answers is the rule's
  kept : low16 (bin_of (pos beg) (pos (end - 1))) ≡ bin_up 5 14 beg (end - 1)
  unfolding low16
  kept =
      let b = Bins.bin_most 14 5 beg end h g _ (Bins.holds_meets 14 5 beg end h g _ (Bins.smallest 14 5 beg end h g)) in
      let r : bin_up 5 14 beg (end - 1) % 65536 ≡ bin_up 5 14 beg (end - 1) = omega arith in
      ap low16 (ap (λ (ls : List Shift). first_agreed ls (pos beg) (pos (end - 1))) (sym bai_shifts) ∙ climbed 5 14 beg (end - 1)) ∙ r

  pub smallest : SmallestBin 14 5 beg end (low16 (bin_of (pos beg) (pos (end - 1))))
  smallest = subst (λ (n : ℕ). SmallestBin 14 5 beg end n) (sym kept) (Bins.smallest 14 5 beg end h g)

  pub answered : reg2bin (pos beg) (pos end) ≡ Ok (low16 (bin_of (pos beg) (pos (end - 1))))
  unfolding reg2bin bin_to
  answered =
      let d = minus (pos end) (pos 1) in
      let e : pos end -ℤ pos 1 ≡ pos (end - 1) = same (pos end -ℤ pos 1) (pos (end - 1)) (omega arith) in
      simp (e, checked_in (pos (end - 1)) (omega arith) (omega arith))

  -- so it answers the rule's bin
  pub by_levels : reg2bin (pos beg) (pos end) ≡ Ok (bin_up 5 14 beg (end - 1))
  by_levels = answered ∙ ap Ok kept
