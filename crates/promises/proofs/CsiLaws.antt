-- What document 02, item 11, promises of CSI bins beside the answers, over the bins of `sam`. Each line is a theorem of the crate that it is cited from.
use Prim.Native.Nat.{ℕ, suc, ◌+◌, ◌-◌, ◌*◌, ◌/◌, ◌<◌, ◌≤◌, ◌^◌}
use Rattle.std.specs.Prelude.{Ok}
use mathlib.Core.Path.{◌≡◌, refl, sym, ◌∙◌}
use mathlib.Core.Bool.{true}
use mathlib.Core.List.{Memᴰ}
use lib.IntN.{ℤ, pos}
use Rattle.lists.specs.Lists.{Each}
use Rattle.signed.specs.Whole.{natural}
use Rattle.sam.specs.Bins.{MeetingBin, SmallestBin, AllBins}
use Rattle.sam.proofs.BinLaws as Bins
use Rattle.bin_rules.specs.Bin.{reg2bin}
use Rattle.bin_rules.proofs.Smallest as Bai
use Rattle.csi_rules.specs.Csi.{served, inside, region_bin, region_bins, csi_bin}
use Rattle.csi_rules.proofs.Ranges.{inside_of}
use Rattle.csi_rules.proofs.Cases as Cases
use Rattle.csi_rules.proofs.Meaning as Meaning

-- ---- where neither 17 nor 18 is due
module _ (beg end : ℤ) (s d : ℕ) (u : inside s d beg end ≡ true) where
  -- "it is the smallest bin holding the region", "shown once over depth and shift"
  pub csi_smallest : served s d ≡ true → (csi_bin beg end s d ≡ Ok (region_bin beg end s d)) × SmallestBin s d (natural beg) (natural end) (region_bin beg end s d)
  csi_smallest t = (Cases.bin_answer beg end s d t u, Meaning.smallest beg end s d u)

  -- "all bins that may overlap a region, each once, level by level from the coarsest, ascending in each"
  pub csi_all : AllBins s d (natural beg) (natural end) (region_bins beg end s d)
  csi_all = Meaning.lists_all beg end s d u

  -- the single bin is one of them
  pub csi_listed : Memᴰ (region_bin beg end s d) (region_bins beg end s d)
  csi_listed = Meaning.lists_single beg end s d u

  -- each is below (8^(depth + 1) - 1) / 7, as many as there are bins
  pub csi_below : Each (λ (bin : ℕ). bin < (8 ^ suc d - 1) / 7) (region_bins beg end s d)
  csi_below = Meaning.listed_most beg end s d u

-- there is one smallest bin
pub smallest_only : (s d beg end a b : ℕ) → beg < end → SmallestBin s d beg end a → SmallestBin s d beg end b → a ≡ b
smallest_only s d beg end a b h p q = Bins.unique s d beg end a b h p q

-- ascending is level by level: of two bins that meet the region, that of the coarser level has the smaller number
pub coarser_first : (s d beg end a b : ℕ) → beg < end → end ≤ 2 ^ (s + 3 * d) → (p : MeetingBin s d beg end a) (q : MeetingBin s d beg end b) → p.level < q.level → a < b
coarser_first s d beg end a b h g p q l = Bins.coarser_first s d beg end h g a b p q l

-- "With 14 and 5 the single bin equals document 01's on its specified range"
pub csi_bai : (beg end : ℕ) → beg < end → end ≤ 536870912 → csi_bin (pos beg) (pos end) 14 5 ≡ reg2bin (pos beg) (pos end)
csi_bai beg end h g = Cases.bin_answer (pos beg) (pos end) 14 5 refl (inside_of 14 5 beg end h g) ∙ sym (Bai.by_levels beg end h g)
