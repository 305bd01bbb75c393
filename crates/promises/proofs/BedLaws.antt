-- What document 02, item 5, promises of blocks. Each line is a theorem of `bed_rules`, over the definitions that the contract uses.
use Prim.Native.Nat.{ℕ, ◌+◌, ◌<◌}
use Rattle.std.specs.Prelude.{Ok}
use Rattle.answers.specs.Answer.{Answer}
use mathlib.Core.Path.{◌≡◌}
use mathlib.Core.Bool.{false}
use mathlib.Core.List.{List, [], ◌∷◌}
use lib.IntN.{ℤ}
use lib.ListN.{take}
use Rattle.lists.specs.Lists.{sum_of, Each}
use Rattle.sam.specs.Op.{ref_len}
use Rattle.sam.specs.Columns.{columns, refs}
use Rattle.bed_rules.specs.Blocks.{is_skip, blocks}
use Rattle.bed_rules.specs.Bed.{sizes_of, starts_of, bed_blocks}
use Rattle.bed_rules.specs.Meaning.{skip_len, Apart, last_end, Within, Spelled, IsBlock}
use Rattle.bed_rules.proofs.Stretches as Stretches
use Rattle.bed_rules.proofs.BlockLaws as Each
use Rattle.bed_rules.proofs.Covered as Covered
use Rattle.bed_rules.proofs.AnswerLaws as Answer

-- "N separates blocks; D stays within a block; stretches of reference length 0 make none"
pub blocks_are : (xs : List ℕ) → Each (IsBlock xs) (blocks xs)
blocks_are xs = Stretches.blocks_are xs

-- of an answer, "the first is 0, and the last block ends at chromEnd"
module _ (start : ℤ) (xs d e : List ℕ) (at end n : ℕ) (a : (bed_blocks start xs d e).answer ≡ Ok (record { chrom_start = at; chrom_end = end; block_count = n })) where
  pub first-start : take 1 (starts_of (blocks xs)) ≡ 0 ∷ []
  first-start = Each.first-start xs (Answer.answered start xs d e at end n a).0

  pub last-end : at + last_end 0 (blocks xs) ≡ end
  last-end = Each.last-end at xs end (Answer.answered start xs d e at end n a).0 (Answer.answered start xs d e at end n a).1

-- they ascend, and don't overlap
pub apart : (xs : List ℕ) → Apart 0 (blocks xs)
apart xs = Each.apart xs

-- "Sum of sizes plus the N lengths equals the reference length"
pub sizes_and_skips : (xs : List ℕ) → sum_of (λ n. n) (sizes_of (blocks xs)) + sum_of skip_len xs ≡ sum_of ref_len xs
sizes_and_skips xs = Each.sums xs

-- a reference base of the alignment lies in a block exactly where its column is none of an N's; each has such a column, and no other base lies in one
pub in_block : {xs : List ℕ} {k o : ℕ} → Spelled xs k o → is_skip o ≡ false → Within (blocks xs) k
in_block s f = Covered.in_block s f

pub in_no_skip : {xs : List ℕ} {k o : ℕ} → Spelled xs k o → Within (blocks xs) k → is_skip o ≡ false
in_no_skip s w = Covered.no_skip s w

pub spelled : (xs : List ℕ) (k : ℕ) → k < refs (columns xs) → (o : ℕ) × Spelled xs k o
spelled xs k h = Covered.spelled xs k h

pub within_alignment : (xs : List ℕ) (k : ℕ) → Within (blocks xs) k → k < refs (columns xs)
within_alignment xs k w = Covered.within_alignment xs k w
