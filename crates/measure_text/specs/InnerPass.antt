-- The reader's one pass, as its inner functions go; no public contract cites it. Document 01's rules stand in `text_rules`, and a law of proofs/ says that the pass answers them.
use Rattle.std.specs.Prelude.{ℕ, ◌+◌, min, cond, List, [], ◌∷◌, pos, None, Option, Some}
use Rattle.sam.specs.Op.{len_of}
use Rattle.validity.specs.InnerClass.{Class, Class.Reference, Class.Other, Class.Soft, Class.Hard, Class.Unknown}
use Rattle.validity.specs.InnerStages.{class_of, step_of, accept_of, is_wrong}
use Rattle.validity.specs.declared.Stage.TheVariants.{Start}
use Rattle.measure_text.specs.declared.SoFar.{SoFar}
use Rattle.parsed_rules.specs.declared.Measured.{Measured}

-- the reference bases of an op of this class
abbrev pub ref_bases_of : Class → ℕ → ℕ
ref_bases_of Reference len = len
ref_bases_of Other len = 0
ref_bases_of Soft len = 0
ref_bases_of Hard len = 0
ref_bases_of Unknown len = 0

abbrev pub took_of : SoFar → ℕ → Class → Option SoFar
took_of s len k =
    cond (is_wrong (step_of s.stage k)) None
    (Some (record { stage = step_of s.stage k; n = s.n + 1; refs = min (s.refs + ref_bases_of k len) 2147483647 }))

abbrev pub ending_of : SoFar → Option Measured
ending_of s = cond (accept_of s.stage) (Some (record { ops = s.n; refs = pos s.refs })) None

abbrev pub on_took : {A : Type 0} → Option SoFar → (SoFar → A) → A → A
on_took (Some t) more stop = more t
on_took None more stop = stop

abbrev pub at_start : SoFar
at_start = record { stage = Start; n = 0; refs = 0 }

-- the pass over a list
unfoldable pub walk_of : SoFar → List ℕ → Option Measured
walk_of s [] = ending_of s
walk_of s (o ∷ xs) = on_took (took_of s (len_of o) (class_of o)) (λ t. walk_of t xs) None
