-- The rows of a call that asks for a record's reference length, or for a pair test that does: 2 and 4 are the length's, and then the call's own rows follow.
use Prim.Native.Nat.{ℕ}
use Rattle.std.specs.Prelude.{Err, Ok, ℤ}
use Rattle.answers.specs.Answer.{Answer}
use mathlib.Core.Path.{◌≡◌, refl}
use mathlib.Core.Bool.{Bool, true, false, cond, ◌||◌, ◌&&◌}
use mathlib.Core.List.{List, ◌∷◌, ◌++◌}
use lib.Dec.{ltb}
use lib.ListN.{length}
use Rattle.lists.specs.Lists.{sum_of}
use Rattle.sam.specs.Op.{ref_len}
use Rattle.sam.specs.Record.{flags_of, pos_of, mate_pos_of, is_reverse, ops_end, is_short}
use Rattle.oplist.specs.Ops.{record_ops}
use Rattle.answers.specs.Answers.{Told, number_of}
use Rattle.answers.specs.declared.Refusal.{Refusal}
use Rattle.answers.specs.declared.Refusal.TheVariants.{AreaOverrun, Overflow}
use Rattle.length_rules.specs.Lengths.{as_int, checked_ref_length}
use Rattle.pairs_rules.specs.Pairs.{is_opposite, starts_before_end, mate_starts_before, fr_by, is_fr, are_opposite, is_primary_fr}
use Rattle.promises.specs.Table.{Row, ◌when◌, first, only, Gives}
use Rattle.promises.specs.Rows.{refs_of, asked, pair_rows, both_pair_rows, is_yes}
use Rattle.promises.proofs.RowLaws.{number_alone, refusal, like}

-- what a call gives by x, a length or a pair test: where x is refused, that number; and the same for rows with the same first one
pub record PassesOn {X : Type 0} (refusedBy : Refusal → X) (Q : X → List Row → Type 0) : Type 0 where
  pub stops : (r : Refusal) (rows : List Row) → number_of r ≡ first rows → Q (refusedBy r) rows
  pub alike : (x : X) (rows rows' : List Row) → first rows ≡ first rows' → Q x rows → Q x rows'

pub passes_on : {X A : Type 0} (refusedBy : Refusal → X) (tell : A → Told) (to : X → A) → ((r : Refusal) → tell (to (refusedBy r)) ≡ number_alone (number_of r))
    → PassesOn refusedBy (λ x rows. Gives (tell (to x)) rows)
passes_on refusedBy tell to p = record { stops = λ r rows e. refusal (p r) e; alike = λ x rows rows' e q. like e q }

module _ (Q : Answer ℤ → List Row → Type 0) (P : PassesOn Err Q) (b : List ℕ) (l : is_short b ≡ false) (rest : Answer ℤ → List Row) where
  pub length-rows : Q (Ok (refs_of b)) (rest (Ok (refs_of b))) → Q (checked_ref_length b) (asked b ++ rest (checked_ref_length b))
  unfolding checked_ref_length as_int
  length-rows q = rw l (go (ltb (length b) (ops_end b)) (ltb 2147483647 (sum_of ref_len (record_ops b))))
    where
      given : (t u : Bool) → Answer ℤ
      given t u = cond t (Err AreaOverrun) (cond u (Err Overflow) (Ok (refs_of b)))

      go : (t u : Bool) → Q (given t u) ((2 when t) ∷ (4 when (u || false)) ∷ rest (given t u))
      go true u = P.stops AreaOverrun _ refl
      go false true = P.stops Overflow _ refl
      go false false = P.alike _ _ _ refl q

-- by a pair test, whose own answers give the rest
module _ (Q : Answer Bool → List Row → Type 0) (P : PassesOn Err Q) (rest : Bool → List Row) (goes : (t : Bool) → Q (Ok t) (rest t)) where
  pub pair-rows : (forward : Bool) (b : List ℕ) → is_short b ≡ false → Q (fr_by forward b) (pair_rows b ++ rest (is_yes (fr_by forward b)))
  unfolding fr_by mate_starts_before
  pair-rows forward b l = go (is_opposite b) (is_reverse (flags_of b))
    where
      own : Answer ℤ → Answer Bool
      own n = starts_before_end (mate_pos_of b) (pos_of b) n

      fr : (t u : Bool) → Answer Bool
      fr t u = cond t (cond u (own (checked_ref_length b)) (Ok forward)) (Ok false)

      go : (t u : Bool) → Q (fr t u) (only (t && u) (asked b) ++ rest (is_yes (fr t u)))
      go true true = P.alike _ _ _ refl (length-rows (λ n rows. Q (own n) rows) (record { stops = P.stops; alike = λ n. P.alike (own n) }) b l (λ n. rest (is_yes (own n))) (goes _))
      go true false = P.alike _ _ _ refl (goes forward)
      go false u = P.alike _ _ _ refl (goes false)

  pub both-pair-rows : (a b : List ℕ) → is_short a ≡ false → is_short b ≡ false → Q (is_primary_fr a b) (both_pair_rows a b ++ rest (is_yes (is_primary_fr a b)))
  unfolding is_primary_fr
  both-pair-rows a b l m = go (are_opposite a b) (is_reverse (flags_of a))
    where
      fr : (t u : Bool) → Answer Bool
      fr t u = cond t (is_fr (cond u a b)) (Ok false)

      go : (t u : Bool) → Q (fr t u) (only t (pair_rows (cond u a b)) ++ rest (is_yes (fr t u)))
      go true true = P.alike _ _ _ refl (pair-rows _ a l)
      go true false = P.alike _ _ _ refl (pair-rows _ b m)
      go false u = P.alike _ _ _ refl (goes false)
