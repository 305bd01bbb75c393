-- The tests are the definition's.
use mathlib.Core.Path.{◌≡◌, sym, ◌∙◌}
use mir.Syntax.{w32}
use mir.Val.{to_z, of_z}
use Rattle.signed.specs.Equal.{eqℤ}
use Rattle.sam.specs.Record.{ref_id_of}
use Rattle.pairs_rules.proofs.PairLaws.{two-strands, differ_is, refuted}
use borrow.Author.Rules.{rules}
use Rattle.pairs.proofs.both_opposite.Goals as goal
use Rattle.pairs.proofs.both_opposite.Goals.{then-both_mapped, else-both_mapped, then-both_mapped-2, else-both_mapped-2}

pub returns-then-same : goal.returns-then-same
returns-then-same c =
    elim c.if-both_mapped-2.branch [
      | then-both_mapped-2 w ↦
          (let same-refs : w.same.result ≡ eqℤ (ref_id_of c.args.a.now) (ref_id_of c.args.b.now) =
          let e : to_z w32 (of_z w32 w.i32_at.result) ≡ w.i32_at.result = search rules in
          let f : to_z w32 (of_z w32 w.i32_at-then-both_mapped-2.result) ≡ w.i32_at-then-both_mapped-2.result = search rules in
          simp (e ∙ w.i32_at.ensures, f ∙ w.i32_at-then-both_mapped-2.ensures) at w.same.ensures
          in
          elim c.if-both_mapped.branch [
            | then-both_mapped v ↦
                two-strands c.args.a.now c.args.b.now _ _ c.u16_at-flags.ensures.0 c.u16_at-other.ensures.0 (sym c.both_mapped.ensures ∙ v.if-both_mapped.true)
                (sym v.both_mapped-then-both_mapped.ensures ∙ sym v.value-is ∙ w.if-both_mapped-2.true) _ _ _ (sym same-refs ∙ sym w.value-is ∙ c.if-same.true)
                c.is_reverse.ensures c.is_reverse-then-same.ensures (differ_is _ _)
            | else-both_mapped v ↦ refuted (sym v.if-both_mapped.false ∙ sym v.value-is ∙ w.if-both_mapped-2.true)
          ])
      | else-both_mapped-2 w ↦ refuted (sym w.if-both_mapped-2.false ∙ sym w.value-is ∙ c.if-same.true)
    ]
