-- The refusal table across the C border (include/cigar.h): of each shape one law, that what gives a row's number gives it in the struct, where every value is then 0.
use Prim.Native.Nat.{ℕ, ◌+◌}
use Rattle.std.specs.Prelude.{Err, None, Ok, Some}
use Rattle.answers.specs.Answer.{Answer}
use mathlib.Core.Path.{◌≡◌, refl, subst}
use mathlib.Core.Bool.{Bool, true, false, cond}
use mathlib.Core.List.{List}
use lib.Dec.{eqb, ltb}
use lib.IntN.{ℤ, pos, negsuc}
use lib.ListN.{length}
use lib.Signed.{lt_z}
use Rattle.signed.specs.Whole.{natural, checked, side_of, sum_at, Below, Within, Above}
use Rattle.answers.specs.declared.Pos1.{Pos1}
use Rattle.answers.specs.declared.Refusal.{Refusal}
use Rattle.answers.specs.declared.Refusal.TheVariants.{ShortRecord}
use Rattle.sam.specs.Record.{pos_of}
use Rattle.length_rules.specs.Lengths.{checked_ref_length}
use Rattle.ends_rules.specs.Sums.{both, ◌⊕◌}
use Rattle.ends_rules.specs.Ends.{to_place1, plus_one, alignment_start, end_at, alignment_end}
use Rattle.answers.specs.Answers.{Told}
use Rattle.border.specs.Border.{int_of, count_of, flag_of, found_of, position_of, lookup_of, two_of, lengths_of, blocks_of}
use Rattle.border.specs.declared.ToldInt.{ToldInt}
use Rattle.border.specs.declared.ToldCount.{ToldCount}
use Rattle.border.specs.declared.ToldFlag.{ToldFlag}
use Rattle.border.specs.declared.ToldFound.{ToldFound}
use Rattle.border.specs.declared.ToldLookup.{ToldLookup}
use Rattle.border.specs.declared.ToldPosition.{ToldPosition}
use Rattle.border.specs.declared.ToldTwo.{ToldTwo}
use Rattle.border.specs.declared.ToldLengths.{ToldLengths}
use Rattle.border.specs.declared.ToldBlocks.{ToldBlocks}
use Rattle.promises.specs.Table.{Row, Gives, Crosses}

module _ {t : Told} {rows : List Row} (g : Gives t rows) where
  pub int_crosses : Crosses (λ (b : ToldInt). b.refusal) (λ (n : ℕ). record { refusal = n; value = pos 0 }) (int_of t) rows
  int_crosses = record { number_is = g.number; alone = λ h. rw (g.alone h, g.number) }

  pub count_crosses : Crosses (λ (b : ToldCount). b.refusal) (λ (n : ℕ). record { refusal = n; value = 0 }) (count_of t) rows
  count_crosses = record { number_is = g.number; alone = λ h. rw (g.alone h, g.number) }

  pub flag_crosses : Crosses (λ (b : ToldFlag). b.refusal) (λ (n : ℕ). record { refusal = n; value = false }) (flag_of t) rows
  flag_crosses = record { number_is = g.number; alone = λ h. rw (g.alone h, g.number) }

  pub found_crosses : Crosses (λ (b : ToldFound). b.refusal) (λ (n : ℕ). record { refusal = n; found = false; value = 0 }) (found_of t) rows
  found_crosses = record { number_is = g.number; alone = λ h. rw (g.alone h, g.number) }

  pub lookup_crosses : Crosses (λ (b : ToldLookup). b.refusal) (λ (n : ℕ). record { refusal = n; found = false; examined = 0; value = 0 }) (lookup_of t) rows
  lookup_crosses = record { number_is = g.number; alone = λ h. rw (g.alone h, g.number) }

  pub position_crosses : Crosses (λ (b : ToldPosition). b.refusal) (λ (n : ℕ). record { refusal = n; which = 0; value = pos 0 }) (position_of t) rows
  position_crosses = record { number_is = g.number; alone = λ h. rw (g.alone h, g.number) }

  pub two_crosses : Crosses (λ (b : ToldTwo). b.refusal) (λ (n : ℕ). record { refusal = n; first = 0; second = 0 }) (two_of t) rows
  two_crosses = record { number_is = g.number; alone = λ h. rw (g.alone h, g.number) }

  pub lengths_crosses : Crosses (λ (b : ToldLengths). b.refusal) (λ (n : ℕ). record { refusal = n; reference = pos 0; query = 0; leading_soft = 0; leading_hard = 0; trailing_soft = 0; trailing_hard = 0 }) (lengths_of t) rows
  lengths_crosses = record { number_is = g.number; alone = λ h. rw (g.alone h, g.number) }

  pub blocks_crosses : Crosses (λ (b : ToldBlocks). b.refusal) (λ (n : ℕ). record { refusal = n; chrom_start = 0; chrom_end = 0; block_count = 0 }) (blocks_of t) rows
  blocks_crosses = record { number_is = g.number; alone = λ h. rw (g.alone h, g.number) }

-- ---- the positions that start and end find are never negative, so that they cross as they are

-- a sum that is not negative, where it fits
sum_is_natural : (n : ℕ) (p : Pos1) → to_place1 (checked (pos n)) ≡ Ok (Some p) → pos (natural p.0) ≡ p.0
unfolding checked side_of
sum_is_natural n p = go (lt_z (pos n) (negsuc 2147483647)) (lt_z (pos 2147483647) (pos n))
  where
    go : (low high : Bool) → to_place1 (sum_at (cond low Below (cond high Above (Within (pos n))))) ≡ Ok (Some p) → pos (natural p.0) ≡ p.0
    go true high e = cc
    go false true e = cc
    go false false e = let f : record { 0 = pos n } ≡ p = cc in subst (λ (q : Pos1). pos (natural q.0) ≡ q.0) f refl

-- past the tests of both calls
found_is_natural : (t u : Bool) (n m : ℕ) (p : Pos1) → cond t (Ok None) (cond u (Ok None) (to_place1 (Some (pos n) ⊕ Some (pos m)))) ≡ Ok (Some p) → pos (natural p.0) ≡ p.0
unfolding both
found_is_natural true u n m p e = cc
found_is_natural false true n m p e = cc
found_is_natural false false n m p e = sum_is_natural (n + m) p e

pub start_is_natural : (b : List ℕ) (p : Pos1) → alignment_start b ≡ Ok (Some p) → pos (natural p.0) ≡ p.0
unfolding alignment_start plus_one
start_is_natural b p = go (ltb (length b) 32) (pos_of b)
  where
    go : (t : Bool) (z : ℤ) → cond t (Err ShortRecord) (cond (lt_z z (pos 0)) (Ok None) (to_place1 (Some z ⊕ Some (pos 1)))) ≡ Ok (Some p) → pos (natural p.0) ≡ p.0
    go true z e = cc
    go false (negsuc n) e = cc
    go false (pos n) e = found_is_natural (ltb n 0) false n 1 p e

pub end_is_natural : (b : List ℕ) (p : Pos1) → alignment_end b ≡ Ok (Some p) → pos (natural p.0) ≡ p.0
unfolding alignment_end
end_is_natural b p = go (ltb (length b) 32) (pos_of b) (checked_ref_length b)
  where
    passed : (t : Bool) (r : Refusal) → cond t (Ok None) (Err r) ≡ Ok (Some p) → pos (natural p.0) ≡ p.0
    passed true r e = cc
    passed false r e = cc

    go : (t : Bool) (z : ℤ) (y : Answer ℤ) → cond t (Err ShortRecord) (cond (lt_z z (pos 0)) (Ok None) (end_at z y)) ≡ Ok (Some p) → pos (natural p.0) ≡ p.0
    go true z y e = cc
    go false (negsuc n) y e = cc
    go false (pos n) (Ok (negsuc m)) e = found_is_natural (ltb n 0) true n 0 p e
    go false (pos n) (Ok (pos m)) e = found_is_natural (ltb n 0) (eqb m 0) n m p e
    go false (pos n) (Err r) e = passed (ltb n 0) r e
