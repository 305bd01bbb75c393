-- Document 01, "What the statements have to settle": for every input, two outcomes that a call's contract admits are the same answer and the same memory.
-- A call's `ensures` is one of three predicates, `r ≡ definition`, or `Settled definition r memory` where memory is lent, or `SettledTwo definition r memory memory'` where two are
-- (tests/run.d/contracts looks at each); so there is one law for each.
use Prim.Native.Nat.{ℕ}
use mathlib.Core.Path.{◌≡◌, sym, ◌∙◌}
use mathlib.Core.List.{List}
use Rattle.answers.specs.Answers.{Told}
use Rattle.answers.specs.Settled.{Outcome, Settled, OutcomeTwo, SettledTwo}
use Rattle.answers.proofs.Unique.{unique, unique_two}
use Rattle.border.specs.Border.{across, across_two}

-- a call that is lent nothing to write, whose contract is `r ≡ definition`, whatever the definition
pub settles : {A : Type 0} {definition r s : A} → r ≡ definition → s ≡ definition → r ≡ s
settles p q = p ∙ sym q

-- a call that is lent memory, whose contract is `Settled definition r memory`
pub settles_left : {A : Type 0} {definition : Outcome A} {r s : A} {m n : List ℕ} → Settled definition r m → Settled definition s n → (r ≡ s) × (m ≡ n)
settles_left p q = unique p q

-- a call that is lent two memories, whose contract is `SettledTwo definition r memory memory'`
pub settles_two : {A : Type 0} {definition : OutcomeTwo A} {r s : A} {m m' n n' : List ℕ} → SettledTwo definition r m m' → SettledTwo definition s n n' → (r ≡ s) × (m ≡ n) × (m' ≡ n')
settles_two p q = unique_two p q

-- ---- the exported calls (include/cigar.h): what is told of an answer in its shape, and the lent memory where there is some

pub border_call : {A B : Type 0} (shape : Told → B) (tell : A → Told) (a : A) {r s : B} → r ≡ shape (tell a) → s ≡ shape (tell a) → r ≡ s
border_call shape tell a = settles

pub border_call_left : {A B : Type 0} (shape : Told → B) (tell : A → Told) (o : Outcome A) {r s : B} {m n : List ℕ} → Settled (across shape tell o) r m → Settled (across shape tell o) s n → (r ≡ s) × (m ≡ n)
border_call_left shape tell o = settles_left

pub border_call_two : {A B : Type 0} (shape : Told → B) (tell : A → Told) (o : OutcomeTwo A) {r s : B} {m m' n n' : List ℕ}
    → SettledTwo (across_two shape tell o) r m m' → SettledTwo (across_two shape tell o) s n n' → (r ≡ s) × (m ≡ n) × (m' ≡ n')
border_call_two shape tell o = settles_two
