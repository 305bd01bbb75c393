-- What is told of an answer that is plain numbers: one that may be none, or two that are never negative.
use Rattle.std.specs.Prelude.{ℕ, ℤ, pos, List, [], ◌∷◌, Err, None, Ok, Option, Some}
use Rattle.answers.specs.Answer.{Answer}
use Rattle.answers.specs.Answers.{Told, answered, refused, none, some}

abbrev pub tell_option : Option ℕ → List ℤ
tell_option (Some n) = some (pos n)
tell_option None = none

abbrev pub tell_found : Answer (Option ℕ) → Told
tell_found (Ok place) = answered (tell_option place)
tell_found (Err r) = refused r

abbrev pub tell_pair : Answer (ℕ × ℕ) → Told
tell_pair (Ok (m, n)) = answered (pos m ∷ pos n ∷ [])
tell_pair (Err r) = refused r
