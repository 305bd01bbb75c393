-- Document 01, module 6: "Start: position less leading S and H. End: position less 1, plus reference length, plus S and H after the last reference letter. Each step saturates."
use Rattle.std.specs.Prelude.{Bool, cond, List, ℕ, ℤ, pos, ◌+ℤ◌, ◌-ℤ◌}
use Rattle.signed.specs.Whole.{clamp32}
use Rattle.answers.specs.declared.Pos0.{Pos0}
use Rattle.answers.specs.declared.Pos1.{Pos1}
use Rattle.mate_rules.specs.Pieces.{mate_leading, mate_reference, mate_trailing, capped}

-- "Start: position less leading S and H"
abbrev pub mate_start : ℤ → List ℕ → ℤ
mate_start p s = clamp32 (p -ℤ capped (mate_leading s))

-- "End: position less 1, plus reference length, plus S and H after the last reference letter", in this order
abbrev pub end_from : ℤ → ℤ → ℤ → ℤ
end_from p refs clips = clamp32 (clamp32 (clamp32 (p -ℤ pos 1) +ℤ refs) +ℤ clips)

abbrev pub mate_end : ℤ → List ℕ → ℤ
mate_end p s = end_from p (capped (mate_reference s)) (capped (mate_trailing s))

-- the end of a reverse mate, the start of a forward one, counted as the position is
unfoldable pub mate_five_prime : ℤ → Bool → List ℕ → ℤ
mate_five_prime p reverse s = cond reverse (mate_end p s) (mate_start p s)

-- `mate_unclipped_5prime`
unfoldable pub mate_unclipped : Pos0 → Bool → List ℕ → Pos0
mate_unclipped p reverse s = record { 0 = mate_five_prime p.0 reverse s }

-- a position counted from 1; it saturates, as each step does
abbrev pub saturated_one_based : Pos0 → Pos1
saturated_one_based p = record { 0 = clamp32 (p.0 +ℤ pos 1) }

-- its `_1based` form: from the position counted so
unfoldable pub mate_unclipped1 : Pos0 → Bool → List ℕ → Pos1
mate_unclipped1 p reverse s = record { 0 = mate_five_prime (saturated_one_based p).0 reverse s }
