-- Document 01, module 7: "reverse plus reference length plus clips after the last reference op, less 1. Clips before any reference op don't count in reverse."
-- The Rust keeps one sum of clips, which begins anew at each reference op. So it also sums the clips between two reference ops, which don't count, and stops
-- where these overflow; clips before any reference op are not summed.
use Rattle.std.specs.Prelude.{ℕ, max, ◌≡◌, Bool, not, cond, List, [], ◌∷◌, take}
use Rattle.lists.specs.Lists.{sum_of}
use Rattle.lists.specs.Runs.{leading}
use Rattle.sam.specs.Op.{code_of, is_ref}
use Rattle.clip_run_rules.specs.Clips.{clip_len, clips_after_reference}

abbrev pub ref_op : ℕ → Bool
ref_op o = is_ref (code_of o)

-- the S and H up to the next reference op, or to the end
unfoldable pub clips_to_next : List ℕ → ℕ
clips_to_next xs = sum_of clip_len (leading (λ o. not (ref_op o)) xs)

-- the most that the sum of clips comes to: over all reference ops, the S and H from there to the next
unfoldable pub greatest_run : List ℕ → ℕ
greatest_run [] = 0
greatest_run (o ∷ xs) = max (cond (ref_op o) (clips_to_next xs) 0) (greatest_run xs)

-- after so many ops the sum of clips is the most that it comes to
pub record Reached (xs : List ℕ) : Type 0 where
  pub after : ℕ
  pub is : clips_after_reference (take after xs) ≡ greatest_run xs
