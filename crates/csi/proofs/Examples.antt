-- Bins at the edges, past 2^29, refusals in their order, and lists. Each computes.
use mathlib.Core.Path.{◌≡◌, refl}
use Rattle.std.specs.Prelude.{Err, Ok}
use mathlib.Core.List.{[], ◌∷◌}
use lib.IntN.{pos, negsuc}
use Rattle.lists.specs.Lists.{splice}
use Rattle.answers.specs.Settled.{keeps}
use Rattle.answers.specs.declared.Refusal.TheVariants.{BadLevels, BadRegion, NoRoom}
use Rattle.sam.specs.Bins.{first_of, bin_up}
use Rattle.csi_rules.specs.Csi.{numbers_from, bins_up, region_of, csi_bin, csi_bins}

pub first : csi_bin (pos 0) (pos 1) 14 5 ≡ Ok 4681
unfolding first_of bin_up region_of csi_bin
first = refl

pub whole : csi_bin (pos 0) (pos 536870912) 14 5 ≡ Ok 0
unfolding first_of bin_up region_of csi_bin
whole = refl

-- a base past 2^29: refused at depth 5, served at depth 6
pub too_far : csi_bin (pos 536870912) (pos 536870913) 14 5 ≡ Err BadRegion
unfolding region_of csi_bin
too_far = refl

pub wheat : csi_bin (pos 536870912) (pos 536870913) 14 6 ≡ Ok 70217
unfolding first_of bin_up region_of csi_bin
wheat = refl

-- the largest number of all
pub largest : csi_bin (pos 17592186044415) (pos 17592186044416) 20 8 ≡ Ok 19173960
unfolding first_of bin_up region_of csi_bin
largest = refl

-- 17 before 18
pub both_due : csi_bin (negsuc 0) (pos 0) 9 9 ≡ Err BadLevels
unfolding region_of csi_bin
both_due = refl

pub depth_nine : csi_bin (pos 0) (pos 1) 14 9 ≡ Err BadLevels
unfolding region_of csi_bin
depth_nine = refl

pub below-zero : csi_bin (negsuc 0) (pos 1) 14 5 ≡ Err BadRegion
unfolding region_of csi_bin
below-zero = refl

pub no_base : csi_bin (pos 7) (pos 7) 14 5 ≡ Err BadRegion
unfolding region_of csi_bin
no_base = refl

-- a region that begins and ends at a bin's edge has that bin alone on its level
pub edges : csi_bins (pos 1024) (pos 2048) 10 1 (7 ∷ 7 ∷ 7 ∷ []) ≡ record { answer = Ok 2; left = 0 ∷ 2 ∷ 7 ∷ [] }
unfolding first_of numbers_from bins_up region_of csi_bins splice
edges = refl

pub across : csi_bins (pos 8191) (pos 8193) 10 2 (7 ∷ 7 ∷ 7 ∷ 7 ∷ 7 ∷ []) ≡ record { answer = Ok 5; left = 0 ∷ 1 ∷ 2 ∷ 16 ∷ 17 ∷ [] }
unfolding first_of numbers_from bins_up region_of csi_bins splice
across = refl

pub no_room : csi_bins (pos 0) (pos 1) 10 1 (7 ∷ []) ≡ keeps (Err NoRoom) (7 ∷ [])
unfolding first_of numbers_from bins_up region_of csi_bins
no_room = refl

pub region_before_room : csi_bins (pos 1) (pos 1) 10 1 [] ≡ keeps (Err BadRegion) []
unfolding region_of csi_bins
region_before_room = refl
