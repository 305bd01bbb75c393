-- SAM specification 1.4.6: clipping a list whose clips stand where the specification allows leaves them so.
use Rattle.std.specs.Prelude.{ℕ, Bool, List}
use Rattle.sam.specs.Placement.{WellPlaced}
use Rattle.clip_rules.specs.Answer.{clipped_ops}

abbrev pub KeepsPlaced : List ℕ → ℕ → Bool → Type 0
KeepsPlaced xs amount start = WellPlaced xs → WellPlaced (clipped_ops xs amount start)
