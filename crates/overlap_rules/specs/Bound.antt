-- Document 01, module 10: "An overhang never exceeds the read's query length." Of an answer, that it is at most so many; a refusal has no overhang.
use Rattle.std.specs.Prelude.{ℕ, ◌≤◌, Err, Ok}
use Rattle.answers.specs.Answer.{Answer}
use Rattle.overlap_rules.specs.declared.Overhang.{Overhang}

abbrev pub Within : Answer ℕ → ℕ → Type 0
Within (Ok n) most = n ≤ most
Within (Err r) most = Unit {0}

-- beside the overhang of a mate text stands how many ops it has
abbrev pub WithinText : Answer Overhang → ℕ → Type 0
WithinText (Ok got) most = got.bases ≤ most
WithinText (Err r) most = Unit {0}
