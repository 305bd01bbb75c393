-- Document 02, item 10, whole, of the public calls as they are answered: "Kept bases keep their partners. [..] Show this for both ends from one shared statement."
use Rattle.std.specs.Prelude.{ℕ, ◌+◌, ◌≤◌, ◌<◌, ◌≡◌, true, false, List, length, take, Ok}
use Rattle.answers.specs.Answer.{Answer}
use Rattle.answers.specs.Settled.{Settled}
use Rattle.clip_rules.specs.declared.Clipped.{Clipped}
use Rattle.clip_laws.specs.Demand3.{Clipper, Given}
use Rattle.partner_laws.specs.Partners.{Lookup, StartKeeps, EndKeeps}
use Rattle.clip_rules.specs.Answer.{given}

-- a start "acceptable to lookup"
pub record Acceptable (start : ℕ) : Type 0 where
  pub low : 1 ≤ start
  pub high : start ≤ 2147483648

-- THE SENTENCE, of a start call, an end call and a lookup. What is clipped is s, which holds the list xs: the list itself, or a record of it. The call answers n ops, with the count r at the
-- start, and leaves m in the buffer: the first n places of m are the new list
pub record KeepPartners (limit : ℕ) (Holds : List ℕ → List ℕ → Type 0) (clipStart : Clipper (Answer Clipped)) (clipEnd : Clipper (Answer ℕ)) (look : Lookup) : Type 0 where
  -- "Under demand 3's premises for one amount": a buffer with a place more than the list has ops is room enough
  pub start_answers : (s xs d m : List ℕ) (a : ℕ) (c : Answer Clipped) → Given limit Holds true s xs a → length xs < length d → Settled (clipStart s a d) c m
      → (n : ℕ) × (r : ℕ) × (c ≡ given n r)
  -- "with both starts acceptable to lookup and deletions not answered: after a start clip with count r, every reference position from start + r on has its old answer less the query length
  -- lost, and none remains none": `StartKeeps`
  pub at_start : (s xs d m : List ℕ) (a n r start : ℕ) → Given limit Holds true s xs a → Settled (clipStart s a d) (given n r) m
      → Acceptable start → Acceptable (start + r) → StartKeeps look xs (take n m) start r
  pub end_answers : (s xs d m : List ℕ) (a : ℕ) (c : Answer ℕ) → Given limit Holds false s xs a → length xs < length d → Settled (clipEnd s a d) c m
      → (n : ℕ) × (c ≡ Ok n)
  -- "After an end clip, every position below start plus the new reference length keeps its answer, and all others give none": `EndKeeps`
  pub at-end : (s xs d m : List ℕ) (a n start : ℕ) → Given limit Holds false s xs a → Settled (clipEnd s a d) (Ok n) m
      → Acceptable start → EndKeeps look false xs (take n m) start
