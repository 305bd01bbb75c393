-- Document 02, item 10, "Kept bases keep their partners": what lookup tells of a list xs, and of ys, which a clip left of it.
use Rattle.std.specs.Prelude.{ℕ, ◌+◌, ◌≤◌, ◌<◌, ◌≡◌, Bool, false, List, take, Err, Some, None, Option, Ok}
use Rattle.answers.specs.Answer.{Answer}
use Rattle.lists.specs.Lists.{sum_of}
use Rattle.sam.specs.Op.{query_len, ref_len}
use Rattle.answers.specs.Settled.{Settled}
use Rattle.lookup_rules.specs.Meaning.{InBounds}
use Rattle.lookup_rules.specs.declared.Found.{Found}
use Rattle.clip_rules.specs.declared.Clipped.{Clipped}
use Rattle.clip_laws.specs.Demand3.{Clipper}
use Rattle.clip_rules.specs.Answer.{given}

-- a lookup: of a list, an alignment start, a position, and whether deletions are answered
abbrev pub Lookup : Type 0
Lookup = List ℕ → ℕ → ℕ → Bool → Answer Found

-- what it tells of the position; the number of ops examined is not promised
abbrev pub partner : Answer Found → Answer (Option ℕ)
partner (Ok f) = Ok f.place
partner (Err r) = Err r

-- "its old answer less the query length lost, and none remains none"
pub data Less (lost : ℕ) (old new : Answer (Option ℕ)) : Type 0 where
  base : (n : ℕ) → old ≡ Ok (Some (n + lost)) → new ≡ Ok (Some n) → Less lost old new
  none : old ≡ Ok None → new ≡ Ok None → Less lost old new

-- "after a start clip with count r, every reference position from start + r on has its old answer less the query length lost, and none remains none": deletions not answered
pub record StartKeeps (look : Lookup) (xs ys : List ℕ) (start r : ℕ) : Type 0 where
  pub lost : ℕ
  pub lost_is : lost + sum_of query_len ys ≡ sum_of query_len xs
  pub kept : (at : ℕ) (old new : Answer Found) → start + r ≤ at → old ≡ look xs start at false → new ≡ look ys (start + r) at false → Less lost (partner old) (partner new)

-- "After an end clip, every position below start plus the new reference length keeps its answer, and all others give none": deletions answered or not
pub record EndKeeps (look : Lookup) (asked : Bool) (xs ys : List ℕ) (start : ℕ) : Type 0 where
  pub kept : (at : ℕ) (old new : Answer Found) → at < start + sum_of ref_len ys → old ≡ look xs start at asked → new ≡ look ys start at asked → partner new ≡ partner old
  pub none : (at : ℕ) (new : Answer Found) → start + sum_of ref_len ys ≤ at → new ≡ look ys start at asked → partner new ≡ Ok None

-- of every list and every amount, as the calls are answered: s holds the list xs; the clip answered that it wrote n ops, with the count r at the start, and left m, whose first n are the
-- list that is left; and lookup refuses neither list
pub record Always (limit : ℕ) (Holds : List ℕ → List ℕ → Type 0) (clipStart : Clipper (Answer Clipped)) (clipEnd : Clipper (Answer ℕ)) (look : Lookup) : Type 0 where
  pub at_start : (s xs d m : List ℕ) (a n r start : ℕ) → Holds s xs → Settled (clipStart s a d) (given n r) m
      → InBounds limit xs start → InBounds limit (take n m) (start + r) → StartKeeps look xs (take n m) start r
  pub at-end : (s xs d m : List ℕ) (a n start : ℕ) (asked : Bool) → Holds s xs → Settled (clipEnd s a d) (Ok n) m
      → InBounds limit xs start → InBounds limit (take n m) start → EndKeeps look asked xs (take n m) start
