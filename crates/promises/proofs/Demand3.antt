-- Demand 3 of the calls that clip, over the definitions in their contracts, once for each, with the call's limit; what a call settles is what it is said to answer; and 19 is due for no
-- amount of the demand's, and of the lists that it takes for every other.
use Prim.Native.Nat.{ℕ, ◌^◌, ◌≤◌, ◌<◌}
use mathlib.Core.Path.{◌≡◌, ap, ◌∙◌}
use mathlib.Core.Bool.{Bool, true, false}
use mathlib.Core.List.{List}
use lib.Dec.{ltb}
use lib.ListN.{length}
use borrow.Author.Tests.{le-ltb}
use Rattle.lists.specs.Lists.{splice, sum_of}
use Rattle.sam.specs.Op.{len_of}
use Rattle.answers.specs.Settled.{Outcome, Settled}
use Rattle.oplist.specs.Ops.{most_ops, most_long_ops}
use Rattle.clip_rules.specs.Answer.{clipped_ops, clipped_count, clippable, is_beyond, written, without_count, clipped_start, clipped_end, long_start, long_end, record_start, record_end}
use Rattle.true_rules.specs.True.{true_clipped, true_start, true_end, HandsBack}
use Rattle.true_rules.proofs.Cases.{clips_held}
use Rattle.clip_laws.specs.Demand3.{Takes, most, Clipper, Leaves, Given, StartThen, Demand3Start, EndThen, Demand3End, Itself, InRecord}
use Rattle.clip_laws.proofs.Demand3 as Law

-- `clip_cigar_start_raw`
pub list_start : Demand3Start most_ops Itself clipped_start
list_start = Law.list_start most_ops

-- `clip_cigar_end_raw`
pub list_end : Demand3End most_ops Itself clipped_end
list_end = Law.list_end most_ops

-- `clip_cigar_start`
pub record-start : Demand3Start most_ops InRecord record_start
record-start = Law.record-start most_ops

-- `clip_cigar_end`
pub record-end : Demand3End most_ops InRecord record_end
record-end = Law.record-end most_ops

-- ---- document 02, item 1: "demand 3's count rises to 1,048,575"

-- `long_clip_cigar_start_raw`
pub long-start : Demand3Start most_long_ops Itself long_start
long-start = Law.list_start most_long_ops

-- `long_clip_cigar_end_raw`
pub long-end : Demand3End most_long_ops Itself long_end
long-end = Law.list_end most_long_ops

-- the list that the reader hands back
held : (start : Bool) (b xs : List ℕ) → HandsBack b xs → sum_of len_of xs < 2 ^ 28 → (a : ℕ) → a ≤ clippable xs start → (d : List ℕ) → length (clipped_ops xs a start) ≤ length d
    → true_clipped b a start d ≡ written (clipped_ops xs a start) (clipped_count xs a start) d
held start b xs H short a le d room = clips_held b xs H a start d ∙ Law.ruled xs a start short le d room

start_rules : Law.StartRules most_long_ops HandsBack true_start
start_rules b xs H few short a le d room = held true b xs H short a le d room

end_rules : Law.EndRules most_long_ops HandsBack true_end
end_rules b xs H few short a le d room = ap without_count (held false b xs H short a le d room)

-- `true_clip_cigar_start`
pub true-start : Demand3Start most_long_ops HandsBack true_start
true-start = Law.start_demand3 most_long_ops HandsBack true_start start_rules

-- `true_clip_cigar_end`
pub true-end : Demand3End most_long_ops HandsBack true_end
true-end = Law.end_demand3 most_long_ops HandsBack true_end end_rules

-- a then b as a chain of calls: what `true_clip_cigar_start` wrote is lent to `long_clip_cigar_start_raw`, and so at the end
pub true_then_long_start : StartThen most_long_ops HandsBack true_start Itself long_start
true_then_long_start = Law.start_then most_long_ops HandsBack true_start start_rules Itself long_start (Law.start_rules most_long_ops)

pub true_then_long_end : EndThen most_long_ops HandsBack true_end Itself long_end
true_then_long_end = Law.end_then most_long_ops HandsBack true_end end_rules Itself long_end (Law.end_rules most_long_ops)

-- ---- of every clipper

-- each outcome that a contract admits: the answer, and the buffer
pub admitted : {A : Type 0} (f : Clipper A) (s : List ℕ) (a : ℕ) (answer : A) (ys : List ℕ) → Leaves f s a answer ys
    → (d : List ℕ) (r : A) (m : List ℕ) → length ys ≤ length d → Settled (f s a d) r m → (r ≡ answer) × (m ≡ splice d 0 ys)
admitted {A} f s a answer ys L d r m room S =
    (S.answer ∙ ap (λ (o : Outcome A). o.answer) (L d room), S.memory ∙ ap (λ (o : Outcome A). o.left) (L d room))

-- the amounts "up to the chosen end's clips plus inner M, I, = and X bases" are exactly those that 19 does not refuse
pub beyond_exactly : {limit : ℕ} (xs : List ℕ) (start : Bool) (T : Takes limit xs) (a : ℕ) → is_beyond xs a start ≡ ltb (most T.shape start) a
beyond_exactly xs start T a = Law.beyond_is xs start T a

-- so under demand 3's premises it is never given
pub never_beyond : {limit : ℕ} {Holds : List ℕ → List ℕ → Type 0} {start : Bool} {s xs : List ℕ} {a : ℕ} → Given limit Holds start s xs a → is_beyond xs a start ≡ false
never_beyond {start = start} {xs = xs} {a = a} G = beyond_exactly xs start G.takes a ∙ le-ltb (most G.takes.shape start) a G.within
