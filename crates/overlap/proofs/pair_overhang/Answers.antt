-- The refusal of the places, or the overhang from them.
use mathlib.Core.Path.{◌≡◌, sym, ap, ◌∙◌}
use Rattle.std.specs.Prelude.{Err, Ok, Option}
use Rattle.answers.specs.Answer.{Answer}
use Rattle.overlap_rules.specs.declared.PairPlaces.{PairPlaces}
use Rattle.overlap_rules.specs.Overlap.{overhang_at}
use borrow.Author.Rules.{rules}
use Rattle.overlap.proofs.pair_overhang.Goals as goal

pub returns-in_err-placed : goal.returns-in_err-placed
unfolding overhang_at
returns-in_err-placed g c =
    let told : c.placed_pair.result ≡ Err c.in_err-placed.field-0.0 = search rules in
    let passed : c.from_residual.result ≡ Err c.in_err-placed.field-0.0 = search rules in
    passed ∙ ap (λ (p : Answer (Option PairPlaces)). overhang_at p c.args.bam.now (g.L.OpList.ops c.args.mate_list)) (sym told ∙ c.placed_pair.ensures)

pub returns : goal.returns
unfolding overhang_at
returns g c =
    let told : c.placed_pair.result ≡ Ok c.in_ok-placed.placed = search rules in
    ap Ok c.bases_at.ensures ∙ ap (λ (p : Answer (Option PairPlaces)). overhang_at p c.args.bam.now (g.L.OpList.ops c.args.mate_list)) (sym told ∙ c.placed_pair.ensures)
