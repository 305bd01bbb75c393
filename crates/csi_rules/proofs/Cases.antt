-- The region by its cases: 17 whatever the region is, then 18, and else its first and last place, of which the bin is the rule's.
use Prim.Native.Nat.{ℕ}
use Rattle.std.specs.Prelude.{Err, Ok}
use mathlib.Core.Path.{◌≡◌, ap}
use mathlib.Core.Bool.{true, false}
use lib.IntN.{ℤ}
use Rattle.signed.specs.Whole.{natural}
use Rattle.answers.specs.declared.Refusal.TheVariants.{BadLevels, BadRegion}
use Rattle.csi_rules.specs.Csi.{served, inside, last_place, region_of, bin_in, csi_bin, region_bin}

module _ (beg end : ℤ) (s d : ℕ) where
  pub levels_first : served s d ≡ false → region_of beg end s d ≡ Err BadLevels
  unfolding region_of
  levels_first t = simp t

  pub region_next : served s d ≡ true → inside s d beg end ≡ false → region_of beg end s d ≡ Err BadRegion
  unfolding region_of
  region_next t u = simp (t, u)

  pub taken : served s d ≡ true → inside s d beg end ≡ true → region_of beg end s d ≡ Ok (record { first = natural beg; last = last_place end })
  unfolding region_of
  taken t u = simp (t, u)

  pub bin_answer : served s d ≡ true → inside s d beg end ≡ true → csi_bin beg end s d ≡ Ok (region_bin beg end s d)
  unfolding csi_bin
  bin_answer t u = ap (bin_in s d) (taken t u)
