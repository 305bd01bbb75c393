-- What a function within the crate answers of a list that has no op but clips: no reference base, the soft ones as query, and all as the leading pair.
use Rattle.std.specs.Prelude.{ℕ, pos}
use Rattle.length_rules.specs.declared.RecordLengths.{RecordLengths}

abbrev pub of_clips : ℕ → ℕ → RecordLengths
of_clips soft hard =
    record { reference = pos 0; query = soft; leading = record { soft = soft; hard = hard }; trailing = record { soft = 0; hard = 0 } }
