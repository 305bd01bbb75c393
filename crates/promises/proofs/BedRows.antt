-- The refusal table of blocks: each test of the definition is a row, in the same order.
use Prim.Native.Nat.{ℕ}
use Rattle.std.specs.Prelude.{Ok, Err}
use Rattle.answers.specs.Answer.{Answer}
use mathlib.Core.Path.{◌≡◌, refl, sym, subst}
use mathlib.Core.Bool.{Bool, true, false, ◌||◌}
use mathlib.Core.List.{List, [], ◌∷◌}
use lib.Dec.{ltb}
use lib.IntN.{ℤ, pos, negsuc, ◌+ℤ◌}
use lib.ListN.{length, length-map}
use lib.Signed.{lt_z}
use Rattle.lists.specs.Lists.{sum_of}
use Rattle.lists.proofs.Absurd.{false_true}
use Rattle.signed.specs.Whole.{natural}
use Rattle.sam.specs.Op.{ref_len}
use Rattle.oplist.specs.Ops.{most_ops}
use Rattle.answers.specs.declared.Refusal.TheVariants.{TooManyOps, NoBlocks, Overflow, NoRoom}
use Rattle.bed_rules.specs.Blocks.{blocks}
use Rattle.bed_rules.specs.Bed.{sizes_of, starts_of, unfit, chrom_end, bed_from, bed_blocks, tell_bed}
use Rattle.bed_rules.specs.declared.Bed.{Bed}
use Rattle.promises.specs.Table.{◌when◌, GivesFilledTwo}
use Rattle.promises.specs.Rows.{over, no_room_two, bed_rows}
use Rattle.promises.proofs.RowLaws.{kept_both, last_both}

module _ (xs d e : List ℕ) where
  abbrev done : ℕ → Answer Bed
  done at = Ok (record { chrom_start = at; chrom_end = chrom_end at xs; block_count = length (blocks xs) })

  -- a test is the row's, which has no other sum
  alone : (t : Bool) → t ≡ (t || false)
  alone true = refl
  alone false = refl

  -- 4, 6, from a start that is not below 0
  from_rows : (at : ℕ) → GivesFilledTwo tell_bed (bed_from at xs d e) d e (over ((pos at +ℤ pos (sum_of ref_len xs)) ∷ []) ∷ no_room_two d e (length (blocks xs)) ∷ []) (done at) (sizes_of (blocks xs)) (starts_of (blocks xs))
  unfolding bed_from
  from_rows at =
      subst (λ t. GivesFilledTwo tell_bed (bed_from at xs d e) d e ((4 when t) ∷ no_room_two d e (length (blocks xs)) ∷ []) (done at) (sizes_of (blocks xs)) (starts_of (blocks xs))) (alone (ltb 2147483647 (chrom_end at xs)))
      (kept_both tell_bed (ltb 2147483647 (chrom_end at xs)) (Err Overflow) 4 refl refl (λ _.
      last_both tell_bed (length (blocks xs)) (sizes_of (blocks xs)) (starts_of (blocks xs)) (Err NoRoom) (done at) (length-map (blocks xs) _) (length-map (blocks xs) _) refl refl))

  pub bed-blocks : (start : ℤ) → GivesFilledTwo tell_bed (bed_blocks start xs d e) d e (bed_rows start xs d e) (done (natural start)) (sizes_of (blocks xs)) (starts_of (blocks xs))
  unfolding bed_blocks
  bed-blocks (pos at) =
      kept_both tell_bed (ltb most_ops (length xs)) (Err TooManyOps) 3 refl refl (λ _.
      kept_both tell_bed (lt_z (pos at) (pos 0) || unfit xs) (Err NoBlocks) 14 refl refl (λ _. from_rows at))
  bed-blocks (negsuc n) =
      kept_both tell_bed (ltb most_ops (length xs)) (Err TooManyOps) 3 refl refl (λ _.
      kept_both tell_bed true (Err NoBlocks) 14 {x = bed_from 0 xs d e} refl refl (λ h. false_true (sym h)))
