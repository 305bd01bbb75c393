-- Document 01, "What the statements have to settle": for every input the answer and the final content of lent memory are determined.
use Rattle.std.specs.Prelude.{ℕ, ◌≡◌, List}

-- an answer, and what it leaves in the lent memory
pub record Outcome (A : Type 0) : Type 0 where
  pub answer : A
  pub left : List ℕ

-- an answer beside memory that stays as it was
abbrev pub keeps : {A : Type 0} → A → List ℕ → Outcome A
keeps a d = record { answer = a; left = d }

-- what a call with lent memory promises: the wanted answer, and the wanted content
pub record Settled {A : Type 0} (want : Outcome A) (got : A) (now : List ℕ) : Type 0 where
  pub answer : got ≡ want.answer
  pub memory : now ≡ want.left

-- a call that is lent two memories: an answer, and what it leaves in the first and in the second
pub record OutcomeTwo (A : Type 0) : Type 0 where
  pub answer : A
  pub first : List ℕ
  pub second : List ℕ

abbrev pub keeps_both : {A : Type 0} → A → List ℕ → List ℕ → OutcomeTwo A
keeps_both a d e = record { answer = a; first = d; second = e }

-- the same of one of the two
abbrev pub of_first : {A : Type 0} → OutcomeTwo A → Outcome A
of_first o = record { answer = o.answer; left = o.first }

abbrev pub of_second : {A : Type 0} → OutcomeTwo A → Outcome A
of_second o = record { answer = o.answer; left = o.second }

-- what it promises: of each of the two what a call promises that is lent that one
pub record SettledTwo {A : Type 0} (want : OutcomeTwo A) (got : A) (now now' : List ℕ) : Type 0 where
  pub first : Settled (of_first want) got now
  pub second : Settled (of_second want) got now'
