-- The refusal table of CSI bins: each test of the region is a row, in the same order, and the calls pass its refusal on.
use Prim.Native.Nat.{ℕ}
use Rattle.answers.specs.Answer.{Answer}
use Rattle.std.specs.Prelude.{Err, Ok}
use mathlib.Core.Path.{◌≡◌, refl}
use mathlib.Core.Bool.{Bool, true, false, cond, not}
use mathlib.Core.List.{List, ◌∷◌}
use lib.Dec.{eqb}
use lib.IntN.{ℤ}
use lib.ListN.{length}
use Rattle.answers.specs.Answers.{Told, tell_nat, tell_count}
use Rattle.answers.specs.Settled.{Outcome, keeps}
use Rattle.answers.specs.declared.Refusal.TheVariants.{NoRoom, BadLevels, BadRegion}
use Rattle.csi_rules.specs.declared.Region.{Region}
use Rattle.csi_rules.specs.Csi.{served, inside, region_of, bin_in, bins_in, region_bins, csi_bin, csi_bins}
use Rattle.promises.specs.Table.{Row, ◌when◌, Gives, GivesFilled}
use Rattle.promises.specs.Rows.{csi_rows, csi_list_rows}
use Rattle.promises.proofs.RowLaws.{number_alone, refusal, answer, like, kept_refusal, like_filled, last_row}

-- a test of the region, where the call goes on by `to` from what it is
module _ {A : Type 0} (tell : A → Told) (to : Answer Region → A) where
  through : (t : Bool) (r x : Answer Region) (n : ℕ) {rows : List Row} → tell (to r) ≡ number_alone n → Gives (tell (to x)) rows → Gives (tell (to (cond t r x))) (n when t ∷ rows)
  through true r x n p q = refusal p refl
  through false r x n p q = like refl q

module _ {A : Type 0} (tell : A → Told) {d : List ℕ} (to : Answer Region → Outcome A) where
  kept_through : (t : Bool) (r x : Answer Region) (a : A) (n : ℕ) {rows : List Row} {b : A} {ys : List ℕ} → to r ≡ keeps a d → tell a ≡ number_alone n → eqb n 0 ≡ false
      → GivesFilled tell (to x) d rows b ys → GivesFilled tell (to (cond t r x)) d (n when t ∷ rows) b ys
  kept_through true r x a n e p some q = rw e (kept_refusal tell a p refl some)
  kept_through false r x a n e p some q = like_filled tell refl q

pub csi_reg2bin : (beg end : ℤ) (s d : ℕ) → Gives (tell_nat (csi_bin beg end s d)) (csi_rows beg end s d)
unfolding csi_bin region_of
csi_reg2bin beg end s d =
    through tell_nat (bin_in s d) (not (served s d)) (Err BadLevels) _ 17 refl
    (through tell_nat (bin_in s d) (not (inside s d beg end)) (Err BadRegion) _ 18 refl (answer refl refl))

-- where no row holds, the list stands in the first places; a refusal, 6 too, leaves the room as it was
pub csi_reg2bins : (beg end : ℤ) (s d : ℕ) (out : List ℕ)
    → GivesFilled tell_count (csi_bins beg end s d out) out (csi_list_rows beg end s d out) (Ok (length (region_bins beg end s d))) (region_bins beg end s d)
unfolding csi_bins region_of
csi_reg2bins beg end s d out =
    kept_through tell_count (bins_in s d out) (not (served s d)) (Err BadLevels) _ (Err BadLevels) 17 refl refl refl
    (kept_through tell_count (bins_in s d out) (not (inside s d beg end)) (Err BadRegion) _ (Err BadRegion) 18 refl refl refl
    (last_row tell_count (region_bins beg end s d) (Err NoRoom) _ refl refl))
