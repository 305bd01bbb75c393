-- Item 10 of the public calls: demand 3's premises have the clip answered, and what is left short enough for lookup; the rest holds of every list and amount.
use Prim.Native.Nat.{ℕ, ◌≤◌}
use Rattle.std.specs.Prelude.{Ok}
use Rattle.answers.specs.Answer.{Answer}
use mathlib.Core.Path.{sym, ap, ◌∙◌}
use mathlib.Core.Bool.{Bool, true, false}
use mathlib.Core.List.{List}
use native.Mathlib.Omega.{arith}
use lib.ListN.{length, take}
use Rattle.lists.specs.Lists.{facing}
use Rattle.answers.specs.Settled.{Outcome, Settled}
use Rattle.oplist.specs.Ops.{most_ops, most_long_ops}
use Rattle.lookup_rules.specs.Lookup.{looked_up_to, looked, long_looked}
use Rattle.lookup_rules.specs.Meaning.{InBounds}
use Rattle.clip_rules.specs.Answer.{given, clipped_ops, clipped_count, clipped_up_to, without_count, clipped_start, clipped_end, long_start, long_end, record_start, record_end}
use Rattle.clip_rules.specs.declared.Clipped.{Clipped}
use Rattle.clip_laws.specs.Drops.{Drops}
use Rattle.clip_laws.specs.Demand3.{Clipper, Given, Demand3Start, Demand3End, Itself, InRecord}
use Rattle.clip_laws.proofs.Demand3 as Law
use Rattle.true_rules.specs.True.{true_clipped, true_start, true_end, HandsBack}
use Rattle.true_rules.proofs.Cases.{clips_held}
use Rattle.partner_laws.specs.Partners.{Always}
use Rattle.partner_laws.proofs.CallLaws as Call
use Rattle.promises.proofs.Demand3.{true-start, true-end}
use Rattle.promises.specs.Partners.{Acceptable, KeepPartners}

-- THE ONE STATEMENT, of every list and amount and for both ends: what is left are the list's columns less a first part, seen from the chosen end, whose reference bases are the count
pub shared : (xs : List ℕ) (a : ℕ) (start : Bool) → Drops (facing start xs) (facing start (clipped_ops xs a start)) (clipped_count xs a start)
shared xs a start = Call.shared xs a start

-- ---- of every list and every amount

-- `clip_cigar_start_raw`, `clip_cigar_end_raw`, and the calls with another limit
pub list_always : (limit : ℕ) → Always limit Itself (λ xs a d. clipped_up_to limit xs a true d) (λ xs a d. without_count (clipped_up_to limit xs a false d)) (looked_up_to limit)
list_always limit = Call.always limit _ _ (Call.list_ruled limit true) (Call.list_ruled limit false)

-- `clip_cigar_start`, `clip_cigar_end`
pub record_always : (limit : ℕ) → Always limit InRecord record_start record_end (looked_up_to limit)
record_always limit = Call.always limit _ _ (Call.record_ruled true) (Call.record_ruled false)

-- `true_clip_cigar_start`, `true_clip_cigar_end`
true_ruled : (start : Bool) → Call.Ruled HandsBack start (λ b a d. true_clipped b a start d)
true_ruled start s xs d a n r H e =
    let w = clips_held s xs H a start d in
    w ∙ Call.into_ruled start xs d a n r (ap (λ (o : Outcome (Answer Clipped)). o.answer) (sym w) ∙ e)

pub true_always : (limit : ℕ) → Always limit HandsBack true_start true_end (looked_up_to limit)
true_always limit = Call.always limit _ _ (true_ruled true) (true_ruled false)

-- ---- under demand 3's premises

in_bounds : {limit start : ℕ} (xs : List ℕ) → length xs ≤ limit → Acceptable start → InBounds limit xs start
in_bounds xs h A = record { few = h; low = A.low; high = A.high }

module _ (limit : ℕ) {Holds : List ℕ → List ℕ → Type 0} (f g : Clipper (Answer Clipped)) (F : Call.Ruled Holds true f) (G : Call.Ruled Holds false g)
    (P : Demand3Start limit Holds f) (Q : Demand3End limit Holds (λ s a d. without_count (g s a d))) where
  start_few : (s xs d m : List ℕ) (a n r : ℕ) → Given limit Holds true s xs a → Settled (f s a d) (given n r) m → length (take n m) ≤ limit
  start_few s xs d m a n r T S =
      let O = P.once s xs a T in
      let l = O.clips.long in
      let w = T.takes.few in
      let e = Call.as_long true f F s xs d m a n r T.holds S O.ys (length O.ys) O.count (sym (ap (λ (o : Outcome (Answer Clipped)). o.answer) (O.gives O.ys (omega arith)))) in
      omega arith

  end_few : (s xs d m : List ℕ) (a n : ℕ) → Given limit Holds false s xs a → Settled (without_count (g s a d)) (Ok n) m → length (take n m) ≤ limit
  end_few s xs d m a n T S =
      let O = Q.once s xs a T in
      let l = O.clips.long in
      let w = T.takes.few in
      let c = Call.settled_count n (g s a d) m S in
      let b = Call.with_count (length O.ys) (g s a O.ys).answer (sym (ap (λ (o : Outcome (Answer ℕ)). o.answer) (O.gives O.ys (omega arith)))) in
      let e = Call.as_long false g G s xs d m a n c.0 T.holds c.1 O.ys (length O.ys) b.0 b.1 in
      omega arith

  keep : KeepPartners limit Holds f (λ s a d. without_count (g s a d)) (looked_up_to limit)
  keep =
      record {
        start_answers = λ s xs d m a c T room S.
            let O = P.once s xs a T in
            let l = O.clips.long in
            (length O.ys, O.count, S.answer ∙ ap (λ (o : Outcome (Answer Clipped)). o.answer) (O.gives d (omega arith)));
        at_start = λ s xs d m a n r start T S A B.
            let w = T.takes.few in
            (Call.always limit f g F G).at_start s xs d m a n r start T.holds S (in_bounds xs (omega arith) A) (in_bounds (take n m) (start_few s xs d m a n r T S) B);
        end_answers = λ s xs d m a c T room S.
            let O = Q.once s xs a T in
            let l = O.clips.long in
            (length O.ys, S.answer ∙ ap (λ (o : Outcome (Answer ℕ)). o.answer) (O.gives d (omega arith)));
        at-end = λ s xs d m a n start T S A.
            let w = T.takes.few in
            (Call.always limit f g F G).at-end s xs d m a n start false T.holds S (in_bounds xs (omega arith) A) (in_bounds (take n m) (end_few s xs d m a n T S) A);
      }

-- lists, with the limit as a parameter
pub list_partners_up_to : (limit : ℕ) → KeepPartners limit Itself (λ xs a d. clipped_up_to limit xs a true d) (λ xs a d. without_count (clipped_up_to limit xs a false d)) (looked_up_to limit)
list_partners_up_to limit = keep limit _ _ (Call.list_ruled limit true) (Call.list_ruled limit false) (Law.list_start limit) (Law.list_end limit)

-- `clip_cigar_start_raw`, `clip_cigar_end_raw` and `read_pos_at_ref_pos_raw`
pub list_partners : KeepPartners most_ops Itself clipped_start clipped_end looked
list_partners = list_partners_up_to most_ops

-- `clip_cigar_start`, `clip_cigar_end` of a record: lookup is put to the record's list, and to the one that was written
pub record_partners : KeepPartners most_ops InRecord record_start record_end looked
record_partners = keep most_ops _ _ (Call.record_ruled true) (Call.record_ruled false) (Law.record-start most_ops) (Law.record-end most_ops)

-- `long_clip_cigar_start_raw`, `long_clip_cigar_end_raw` and `long_read_pos_at_ref_pos_raw`
pub long_partners : KeepPartners most_long_ops Itself long_start long_end long_looked
long_partners = list_partners_up_to most_long_ops

-- `true_clip_cigar_start`, `true_clip_cigar_end`: lookup is put to the list that the reader hands back, and to the one that was written
pub true_partners : KeepPartners most_long_ops HandsBack true_start true_end long_looked
true_partners = keep most_long_ops _ _ (true_ruled true) (true_ruled false) true-start true-end
