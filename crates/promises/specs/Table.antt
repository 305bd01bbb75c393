-- Document 01, "Numbers and their bounds": a refusal is "given exactly when" its row holds, and of several the first in the call's order; it "carries its number, no value, and every lent buffer is unchanged".
use Rattle.std.specs.Prelude.{ℕ, ◌≡◌, Bool, true, false, cond, not, ◌&&◌, List, [], ◌∷◌, eqb, length, take, drop}
use Rattle.answers.specs.Answers.{Told}
use Rattle.answers.specs.Settled.{Outcome, OutcomeTwo, of_first, of_second}

-- a row: a number, and the condition on the input under which it is due
pub record Row : Type 0 where
  pub number : ℕ
  pub due : Bool

infixl 90 ◌when◌
abbrev pub ◌when◌ : ℕ → Bool → Row
◌when◌ n t = record { number = n; due = t }

-- rows of what is only done where a condition holds
abbrev pub only : Bool → List Row → List Row
only t [] = []
only t (r ∷ rows) = record { number = r.number; due = t && r.due } ∷ only t rows

-- the first row that holds; 0, an answer, where none does
abbrev pub first : List Row → ℕ
first [] = 0
first (r ∷ rows) = cond r.due r.number (first rows)

-- where a row holds, the call refuses
abbrev pub refuses : List Row → Bool
refuses rows = not (eqb (first rows) 0)

-- a call that is lent nothing gives the number of the first row that holds; "A refusal returns its number alone": no value stands beside it
pub record Gives (t : Told) (rows : List Row) : Type 0 where
  pub number : t.number ≡ first rows
  pub alone : refuses rows ≡ true → t.values ≡ []

-- "and lent buffers keep their bytes": one that is lent memory d leaves it as it was, where it refuses
pub record GivesKept {A : Type 0} (tell : A → Told) (want : Outcome A) (d : List ℕ) (rows : List Row) : Type 0 where
  pub gives : Gives (tell want.answer) rows
  pub kept : refuses rows ≡ true → want.left ≡ d

-- "An accepted output fills its first n places; the places after them are unchanged": the n elements of ys stand in d
pub record Fills (d ys left : List ℕ) : Type 0 where
  pub first_places : take (length ys) left ≡ ys
  pub other_places : drop (length ys) left ≡ drop (length ys) d
  pub as_many : length left ≡ length d

-- a call with an output d: where no row holds it answers a, and d holds ys
pub record GivesFilled {A : Type 0} (tell : A → Told) (want : Outcome A) (d : List ℕ) (rows : List Row) (a : A) (ys : List ℕ) : Type 0 where
  pub refusal : GivesKept tell want d rows
  pub answer : refuses rows ≡ false → want.answer ≡ a
  pub fills : refuses rows ≡ false → Fills d ys want.left

-- a call with two outputs d and e: of each what a call with that one gives
pub record GivesFilledTwo {A : Type 0} (tell : A → Told) (want : OutcomeTwo A) (d e : List ℕ) (rows : List Row) (a : A) (ys zs : List ℕ) : Type 0 where
  pub first_output : GivesFilled tell (of_first want) d rows a ys
  pub second_output : GivesFilled tell (of_second want) e rows a zs

-- across the C border: the struct's number is that of the first row that holds, and where one does, the struct is the one of that number alone
pub record Crosses {B : Type 0} (number : B → ℕ) (refusal : ℕ → B) (b : B) (rows : List Row) : Type 0 where
  pub number_is : number b ≡ first rows
  pub alone : refuses rows ≡ true → b ≡ refusal (first rows)
