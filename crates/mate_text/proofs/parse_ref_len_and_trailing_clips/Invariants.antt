-- `mate_text::parse_ref_len_and_trailing_clips` meets its contract: piece by piece, what is found is what the scan of the whole text finds.
use mathlib.Core.Path.{◌≡◌}
use Prim.Native.Nat.{◌-◌, ◌≤◌}
use Rattle.std.specs.Prelude.{None}
use lib.IntN.{pos}
use lib.ListN.{length, drop}
use Rattle.mate_rules.specs.InnerScan.{scan}
use Rattle.mate_text.specs.InnerPiece.{trail_piece}
use Rattle.mate_text.specs.declared.Trail.{Trail}
use Rattle.mate_text.proofs.parse_ref_len_and_trailing_clips.Given as goal

-- nothing was found yet
abbrev pub start : Trail
start = record { refs = pos 0; clips = None }

abbrev pub invariant-loop-i : goal.invariant-loop-i
invariant-loop-i l =
    (l.i ≤ length l.text) × (scan trail_piece 0 l.found (drop l.i l.text) ≡ scan trail_piece 0 start l.text)

abbrev pub decreases-loop-i : goal.decreases-loop-i
decreases-loop-i l =
    length l.text - l.i
