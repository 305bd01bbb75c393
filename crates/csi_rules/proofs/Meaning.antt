-- Where neither 17 nor 18 is due: the bin is the smallest that holds the region, the list has all bins that may overlap it, that one among them.
use Prim.Native.Nat.{ℕ, suc, ◌-◌, ◌/◌, ◌<◌, ◌^◌}
use mathlib.Core.Path.{◌≡◌}
use mathlib.Core.Bool.{true}
use mathlib.Core.List.{Memᴰ}
use lib.IntN.{ℤ}
use Rattle.lists.specs.Lists.{Each}
use Rattle.lists.proofs.EachLaws.{each_map}
use Rattle.signed.specs.Whole.{natural}
use Rattle.sam.specs.Bins.{MeetingBin, SmallestBin, AllBins}
use Rattle.sam.proofs.BinLaws as Bins
use Rattle.csi_rules.specs.Csi.{inside, region_bin, region_bins}
use Rattle.csi_rules.proofs.Ranges.{within}
use Rattle.csi_rules.proofs.Overlap.{all_bins}

module _ (beg end : ℤ) (s d : ℕ) (u : inside s d beg end ≡ true) where
  pub smallest : SmallestBin s d (natural beg) (natural end) (region_bin beg end s d)
  smallest = let w = within s d beg end u in Bins.smallest s d (natural beg) (natural end) w.0 w.1

  pub lists_all : AllBins s d (natural beg) (natural end) (region_bins beg end s d)
  lists_all = let w = within s d beg end u in all_bins s d (natural beg) (natural end) w.0 w.1

  pub lists_single : Memᴰ (region_bin beg end s d) (region_bins beg end s d)
  lists_single = let w = within s d beg end u in lists_all.all _ (Bins.holds_meets s d (natural beg) (natural end) w.0 w.1 _ smallest)

  pub listed_most : Each (λ (bin : ℕ). bin < (8 ^ suc d - 1) / 7) (region_bins beg end s d)
  listed_most =
      let w = within s d beg end u in
      each_map (MeetingBin s d (natural beg) (natural end)) (λ (bin : ℕ). bin < (8 ^ suc d - 1) / 7) (λ bin p. Bins.bin_most s d (natural beg) (natural end) w.0 w.1 bin p) (region_bins beg end s d) lists_all.meet
