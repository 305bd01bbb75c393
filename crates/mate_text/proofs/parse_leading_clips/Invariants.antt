-- `mate_text::parse_leading_clips`: the scan of what is left of the text, from the run and what was found, is the scan of the whole text.
use Rattle.std.proofs.Common.{◌≡◌, pos, true}
use lib.ListN.{drop}
use Rattle.mate_rules.specs.InnerScan.{scan}
use Rattle.mate_text.specs.InnerPiece.{lead_piece}
use Rattle.mate_text.proofs.parse_leading_clips.Given as goal

abbrev pub invariant-loop-b : goal.invariant-loop-b
invariant-loop-b l = scan lead_piece l.run.0 (record { clips = l.clips; on = true }) (drop l.b-index l.text) ≡ scan lead_piece 0 (record { clips = pos 0; on = true }) l.text
