use lib.IntN.{pos}
use Rattle.std.specs.Prelude.{unwrap_or}
use mathlib.Core.Path.{◌≡◌, sym, ap, ◌∙◌}
use borrow.Author.Rules.{rules}
use Rattle.mate_rules.specs.InnerScan.{scan}
use Rattle.mate_rules.proofs.Scans.{scan-end}
use Rattle.mate_text.specs.InnerPiece.{trail_piece}
use Rattle.mate_text.specs.declared.Trail.{Trail}
use Rattle.mate_text.proofs.Sums.{reference_is, trailing_is}
use Rattle.mate_text.proofs.parse_ref_len_and_trailing_clips.Invariants.{start}
use Rattle.mate_text.proofs.parse_ref_len_and_trailing_clips.Goals as goal

pub returns : goal.returns
returns c =
    let text = c.args.text.now in
    let l = c.loop-i in
    let e : l.found ≡ scan trail_piece 0 start text = sym (scan-end trail_piece text l.i 0 l.found (search rules)) ∙ l.invariant.1 in
    (ap (λ (t : Trail). t.refs) e ∙ reference_is text, ap (λ (t : Trail). unwrap_or t.clips (pos 0)) e ∙ trailing_is text)
