-- The calls as they are answered: a clip that answers has the rule's list and count, whatever was put to it, and the rule drops a first part of the columns.
use Prim.Native.Nat.{ℕ}
use Rattle.std.specs.Prelude.{Err, Ok}
use Rattle.answers.specs.Answer.{Answer}
use mathlib.Core.Path.{◌≡◌, refl, sym, ap, ◌∙◌}
use mathlib.Core.Bool.{Bool, true, false, cond}
use mathlib.Core.List.{List}
use lib.Dec.{ltb}
use lib.ListN.{length, take}
use borrow.Author.Tests.{le-ltb}
use Rattle.lists.specs.Lists.{facing, splice, sum_of}
use Rattle.lists.proofs.Absurd.{never}
use Rattle.sam.specs.Op.{len_of}
use Rattle.answers.specs.Settled.{Outcome, Settled, keeps}
use Rattle.answers.specs.declared.Refusal.TheVariants.{TooManyOps, TooLong, NoRoom, AmountBeyond}
use Rattle.lookup_rules.specs.Lookup.{looked_up_to}
use Rattle.clip_rules.specs.Answer.{given, clipped_ops, clipped_count, is_beyond, clipped_into, clipped_up_to, clipped_record, written, uncounted, without_count}
use Rattle.clip_rules.specs.declared.Clipped.{Clipped}
use Rattle.clip_laws.specs.Drops.{Drops}
use Rattle.clip_laws.specs.Demand3.{Clipper, Itself, InRecord}
use Rattle.clip_laws.proofs.Drops.{clip_drops}
use Rattle.clip_laws.proofs.Demand3.{take_written}
use Rattle.partner_laws.specs.Partners.{Always}
use Rattle.partner_laws.proofs.PartnerLaws.{keeps_start, keeps-end}
use Rattle.clip_rules.proofs.AnswerLaws.{given_same}

-- THE ONE STATEMENT, of every list and amount: what is left are the list's columns less a first part, seen from the chosen end, which has as many reference bases as the count says
pub shared : (xs : List ℕ) (a : ℕ) (start : Bool) → Drops (facing start xs) (facing start (clipped_ops xs a start)) (clipped_count xs a start)
unfolding clipped_count
shared xs a start = clip_drops xs a start

-- ---- an answer is the rule's

-- what a clipper of the list that s holds answers, unless it refuses
abbrev pub Ruled : (Holds : List ℕ → List ℕ → Type 0) → Bool → Clipper (Answer Clipped) → Type 0
Ruled Holds start f = (s xs d : List ℕ) (a n r : ℕ) → Holds s xs → (f s a d).answer ≡ given n r → f s a d ≡ written (clipped_ops xs a start) (clipped_count xs a start) d

pub into_ruled : (start : Bool) (xs d : List ℕ) (a n r : ℕ) → (clipped_into xs a start d).answer ≡ given n r → clipped_into xs a start d ≡ written (clipped_ops xs a start) (clipped_count xs a start) d
unfolding clipped_into
into_ruled start xs d a n r = go (ltb 268435455 (sum_of len_of xs)) (is_beyond xs a start) (ltb (length d) (length (clipped_ops xs a start)))
  where
    w : Outcome (Answer Clipped)
    w = written (clipped_ops xs a start) (clipped_count xs a start) d

    by : Bool → Bool → Bool → Outcome (Answer Clipped)
    by t u v = cond t (keeps (Err TooLong) d) (cond u (keeps (Err AmountBeyond) d) (cond v (keeps (Err NoRoom) d) w))

    go : (t u v : Bool) → (by t u v).answer ≡ given n r → by t u v ≡ w
    go true u v e = never (cc)
    go false true v e = never (cc)
    go false false true e = never (cc)
    go false false false e = refl

pub list_ruled : (limit : ℕ) (start : Bool) → Ruled Itself start (λ xs a d. clipped_up_to limit xs a start d)
unfolding clipped_up_to
list_ruled limit start s xs d a n r H = rw H (go (ltb limit (length xs)))
  where
    go : (t : Bool) → (cond t (keeps (Err TooManyOps) d) (clipped_into xs a start d)).answer ≡ given n r
        → cond t (keeps (Err TooManyOps) d) (clipped_into xs a start d) ≡ written (clipped_ops xs a start) (clipped_count xs a start) d
    go true e = never (cc)
    go false e = into_ruled start xs d a n r e

pub record_ruled : (start : Bool) → Ruled InRecord start (λ b a d. clipped_record b a start d)
unfolding clipped_record
record_ruled start s xs d a n r H = simp (le-ltb (length s) 32 H.0, H.1) (into_ruled start xs d a n r)

-- ---- so the two sentences hold of every call that clips by the rule

module _ {Holds : List ℕ → List ℕ → Type 0} (start : Bool) (f : Clipper (Answer Clipped)) (F : Ruled Holds start f) (s xs d m : List ℕ) (a n r : ℕ) (H : Holds s xs) (S : Settled (f s a d) (given n r) m) where
  -- the list, and the count, that were told and left
  left_is : (take n m ≡ clipped_ops xs a start) × (r ≡ clipped_count xs a start)
  left_is =
      let ys = clipped_ops xs a start in
      let w = F s xs d a n r H (sym S.answer) in
      let same = given_same (S.answer ∙ ap (λ (o : Outcome (Answer Clipped)). o.answer) w) in
      (ap (take n) (S.memory ∙ ap (λ (o : Outcome (Answer Clipped)). o.left) w) ∙ ap (λ (k : ℕ). take k (splice d 0 ys)) same.0 ∙ take_written d ys, same.1)

  dropped : Drops (facing start xs) (facing start (take n m)) r
  dropped = let l = left_is in rw (l.0, l.1) (shared xs a start)

  -- the list is as long in every buffer
  pub as_long : (e : List ℕ) (k q : ℕ) → given k q ≡ (f s a e).answer → length (take n m) ≡ k
  as_long e k q h =
      let w = F s xs e a k q H (sym h) in
      let same = given_same (h ∙ ap (λ (o : Outcome (Answer Clipped)). o.answer) w) in
      ap length left_is.0 ∙ sym same.0

-- an end call leaves the count out
pub with_count : (n : ℕ) (c : Answer Clipped) → Ok n ≡ uncounted c → (r : ℕ) × (given n r ≡ c)
with_count n (Ok got) e = let p : n ≡ got.written = cc in (got.lost, ap (λ (i : ℕ). given i got.lost) p)
with_count n (Err w) e = never (cc)

pub settled_count : (n : ℕ) (o : Outcome (Answer Clipped)) (m : List ℕ) → Settled (without_count o) (Ok n) m → (r : ℕ) × Settled o (given n r) m
settled_count n o m S = let c = with_count n o.answer S.answer in (c.0, record { answer = c.1; memory = S.memory })

pub always : (limit : ℕ) {Holds : List ℕ → List ℕ → Type 0} (f g : Clipper (Answer Clipped)) → Ruled Holds true f → Ruled Holds false g → Always limit Holds f (λ s a d. without_count (g s a d)) (looked_up_to limit)
always limit f g F G =
    record {
      at_start = λ s xs d m a n r start H S X Y. keeps_start limit start r (dropped true f F s xs d m a n r H S) X Y;
      at-end = λ s xs d m a n start asked H S X Y. let c = settled_count n (g s a d) m S in keeps-end limit start c.0 (dropped false g G s xs d m a n c.0 H c.1) X Y asked;
    }
