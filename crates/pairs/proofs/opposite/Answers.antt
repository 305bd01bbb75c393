-- The tests are the definition's.
use mathlib.Core.Path.{◌≡◌, sym, ◌∙◌}
use mir.Syntax.{w32}
use mir.Val.{to_z, of_z}
use Rattle.signed.specs.Equal.{eqℤ}
use Rattle.sam.specs.Record.{ref_id_of, mate_ref_id_of}
use Rattle.pairs_rules.proofs.PairLaws.{strands, differ_is, refuted}
use borrow.Author.Rules.{rules}
use Rattle.pairs.proofs.opposite.Goals as goal
use Rattle.pairs.proofs.opposite.Goals.{then-is_paired, else-is_paired, then-both_mapped, else-both_mapped}

pub returns-then-same : goal.returns-then-same
returns-then-same c =
    elim c.if-both_mapped.branch [
      | then-both_mapped w ↦
          (let same-refs : w.same.result ≡ eqℤ (ref_id_of c.args.bam.now) (mate_ref_id_of c.args.bam.now) =
          let e : to_z w32 (of_z w32 w.i32_at.result) ≡ w.i32_at.result = search rules in
          let f : to_z w32 (of_z w32 w.i32_at-then-both_mapped.result) ≡ w.i32_at-then-both_mapped.result = search rules in
          simp (e ∙ w.i32_at.ensures, f ∙ w.i32_at-then-both_mapped.ensures) at w.same.ensures
          in
          elim c.if-is_paired.branch [
            | then-is_paired v ↦
                strands c.args.bam.now _ c.u16_at-flags.ensures.0 _ _ _ (sym c.is_paired.ensures ∙ v.if-is_paired.true)
                (sym v.both_mapped.ensures ∙ sym v.value-is ∙ w.if-both_mapped.true) (sym same-refs ∙ sym w.value-is ∙ c.if-same.true)
                c.is_reverse.ensures c.is_mate_reverse.ensures (differ_is _ _)
            | else-is_paired v ↦ refuted (sym v.if-is_paired.false ∙ sym v.value-is ∙ w.if-both_mapped.true)
          ])
      | else-both_mapped w ↦ refuted (sym w.if-both_mapped.false ∙ sym w.value-is ∙ c.if-same.true)
    ]
