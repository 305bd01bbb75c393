-- What a call answers: a value, or why there is none.
use Rattle.std.specs.Prelude.{Result}
use Rattle.answers.specs.declared.Refusal.{Refusal}

abbrev pub Answer : Type 0 → Type 0
Answer A = Result A Refusal
