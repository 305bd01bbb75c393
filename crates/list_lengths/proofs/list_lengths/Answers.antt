-- The runs of clips at both ends, and the sums between them.
use mir.Syntax.{w32}
use mir.Val.{to_z, of_z}
use Rattle.std.proofs.Common.{◌≡◌, sym, ap, ◌∙◌, arith, rules}
use Rattle.std.specs.Prelude.{Ok, ℤ}
use Rattle.answers.specs.Answer.{Answer}
use Rattle.length_rules.specs.Lengths.{as_int, lengths_with}
use Rattle.clip_run_rules.proofs.EndLaws.{apart}
use Rattle.list_lengths.proofs.LengthLaws.{no_ops, only_clips, refs_are, six-are}
use Rattle.list_lengths.proofs.list_lengths.Goals as goal

pub returns-then-n-eq0 : goal.returns-then-n-eq0
returns-then-n-eq0 g c =
    ap Ok c.of_clips.ensures ∙ no_ops _ (sym c.count-n.ensures.value ∙ c.if-n-eq0.true)

pub returns-then-first-n : goal.returns-then-first-n
returns-then-first-n g c =
    ap Ok c.of_clips-then-first-n.ensures ∙ only_clips c.clip_run-first.ensures (omega arith)

pub sums_between-inner-requires : goal.sums_between-inner-requires
sums_between-inner-requires g c =
    let last = rw c.new.ensures at c.clip_run-last.ensures in
    let a = apart c.clip_run-first.ensures last (omega arith) in
    (omega arith, omega arith)

pub returns-in_err-reference : goal.returns-in_err-reference
returns-in_err-reference g c =
    let last = rw c.new.ensures at c.clip_run-last.ensures in
    let xs = g.L.OpList.ops c.args.list in
    let passed : c.from_residual.result ≡ lengths_with c.as_int.result xs = search rules in
    passed
    ∙ ap (λ (a : Answer ℤ). lengths_with a xs)
    (c.as_int.ensures ∙ ap as_int (refs_are c.clip_run-first.ensures last _ _ c.count-n.ensures.value c.sums_between-inner.ensures.list_value.0))

pub returns : goal.returns
returns g c =
    let last = rw c.new.ensures at c.clip_run-last.ensures in
    let z : to_z w32 (of_z w32 c.in_ok-reference.reference) ≡ c.in_ok-reference.reference = search rules in
    simp z (six-are c.clip_run-first.ensures last _ _ c.count-n.ensures.value c.sums_between-inner.ensures.list_value.0 _ (sym c.in_ok-reference.ensures) (omega arith) _ c.sums_between-inner.ensures.list_value.1)
