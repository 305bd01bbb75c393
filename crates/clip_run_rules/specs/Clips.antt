-- Document 01: "E is the total of the run of S and H (any order) at the chosen end; h its outermost H run; s the S run next inside" (Clipping), and "forward less the
-- leading S and H, reverse plus reference length plus clips after the last reference op" (module 7). Each on the list as seen from the chosen end.
use Rattle.std.specs.Prelude.{ℕ, Bool, false, cond, not, List, eqb}
use Rattle.lists.specs.Lists.{facing, sum_of}
use Rattle.lists.specs.Runs.{leading, after_leading, holds, after_last}
use Rattle.sam.specs.Op.{len_of, code_of, is_ref}
use Rattle.ops.specs.Ops.{is_clip}

-- the codes of S and of H
abbrev pub is_soft : ℕ → Bool
is_soft c = eqb c 4

abbrev pub is_hard : ℕ → Bool
is_hard c = eqb c 5

-- the bases of an op that has this code; of an S, of an H, and of either
unfoldable pub len_if : ℕ → ℕ → ℕ
len_if c o = cond (eqb (code_of o) c) (len_of o) 0

abbrev pub soft_len : ℕ → ℕ
soft_len o = len_if 4 o

abbrev pub hard_len : ℕ → ℕ
hard_len o = len_if 5 o

unfoldable pub clip_len : ℕ → ℕ
clip_len o = cond (is_clip (code_of o)) (len_of o) 0

-- the run that a list begins with, of ops whose codes pass a test; its total; and the ops inside it
abbrev pub run : (ℕ → Bool) → List ℕ → List ℕ
run p xs = leading (λ o. p (code_of o)) xs

abbrev pub run_len : (ℕ → Bool) → List ℕ → ℕ
run_len p xs = sum_of len_of (run p xs)

abbrev pub after_run : (ℕ → Bool) → List ℕ → List ℕ
after_run p xs = after_leading (λ o. p (code_of o)) xs

-- "the total of the run of S and H (any order)": E, "the leading S and H"
unfoldable pub leading_clips : List ℕ → ℕ
leading_clips xs = run_len is_clip xs

-- what of it is soft, and what is hard
unfoldable pub leading_soft : List ℕ → ℕ
leading_soft xs = sum_of soft_len (run is_clip xs)

unfoldable pub leading_hard : List ℕ → ℕ
leading_hard xs = sum_of hard_len (run is_clip xs)

-- document 02: "leading and trailing soft and hard totals, each over the whole run of S and H (any order) that clipping calls E at that end .. For a list of clips only,
-- the leading pair takes all and the trailing pair is 0": whether some op is no clip, and the trailing pair
unfoldable pub has_inner : List ℕ → Bool
has_inner xs = holds (λ o. not (is_clip (code_of o))) xs

unfoldable pub trailing_soft : List ℕ → ℕ
trailing_soft xs = cond (has_inner xs) (leading_soft (facing false xs)) 0

unfoldable pub trailing_hard : List ℕ → ℕ
trailing_hard xs = cond (has_inner xs) (leading_hard (facing false xs)) 0

-- "h its outermost H run;
unfoldable pub outer_hard : List ℕ → ℕ
outer_hard xs = run_len is_hard xs

-- s the S run next inside"
unfoldable pub next_soft : List ℕ → ℕ
next_soft xs = run_len is_soft (after_run is_hard xs)

-- the "ops inside those two runs"
unfoldable pub inside : List ℕ → List ℕ
inside xs = after_run is_soft (after_run is_hard xs)

-- "clips after the last reference op"; 0 where there is no reference op
unfoldable pub clips_after_reference : List ℕ → ℕ
clips_after_reference xs = sum_of clip_len (after_last (λ o. is_ref (code_of o)) xs)
