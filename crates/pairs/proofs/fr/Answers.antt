-- A forward record's test is of its template length.
use mathlib.Core.Path.{◌≡◌, sym, ap, ◌∙◌}
use Rattle.std.specs.Prelude.{Ok}
use lib.IntN.{pos}
use lib.Signed.{le_z}
use mir.Syntax.{w32}
use mir.Val.{to_z, of_z}
use Rattle.pairs_rules.proofs.PairLaws.{not_fr, fr_forward}
use borrow.Author.Rules.{rules}
use Rattle.pairs.proofs.fr.Goals as goal

pub returns-then-not-opposite : goal.returns-then-not-opposite
returns-then-not-opposite c =
    not_fr _ c.args.bam.now (sym c.opposite.ensures ∙ c.if-not-opposite.true)

pub returns : goal.returns
returns c =
    let e : to_z w32 (of_z w32 c.i32_at.result) ≡ c.i32_at.result = search rules in
    ap Ok (ap (le_z (pos 1)) (e ∙ c.i32_at.ensures))
    ∙ fr_forward c.args.bam.now _ c.u16_at.ensures.0 _ (sym c.opposite.ensures ∙ c.if-not-opposite.false) (sym c.is_reverse.ensures ∙ c.if-is_reverse.false)
