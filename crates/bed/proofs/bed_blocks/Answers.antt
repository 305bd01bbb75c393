-- The refusals by their tests, in their order, from what the measuring pass tells; then both outputs are as the writing leaves them.
use mathlib.Core.Path.{◌≡◌, sym, ◌∙◌}
use mathlib.Core.Bool.{true, false}
use native.Mathlib.Omega.{arith}
use borrow.Author.Rules.{rules}
use Rattle.std.specs.Prelude.{Err, None, Some}
use lib.IntN.{pos}
use lib.Signed.{lt_z}
use mir.Facts.{to_z-of_z}
use Rattle.answers.specs.declared.Refusal.TheVariants.{NoBlocks}
use Rattle.answers.proofs.Unique.{settled_two, outcome_two}
use Rattle.bed_rules.proofs.AnswerLaws.{same_answer, too_many, below-zero, not-fit, past_end, no-room-first, no-room-second, done, told_nothing, told_blocks, measured_fit}
use Rattle.bed.proofs.bed_blocks.Goals as goal

pub returns-then-ops-gt-MOST_OPS : goal.returns-then-ops-gt-MOST_OPS
returns-then-ops-gt-MOST_OPS c =
    settled_two (too_many c.args.start c.args.ops.now c.args.sizes.now c.args.starts.now c.if-ops-gt-MOST_OPS.true)

pub returns-then-start-lt0 : goal.returns-then-start-lt0
returns-then-start-lt0 c =
    let t : lt_z c.args.start (pos 0) ≡ true = simp (to_z-of_z c.ranges.start) at c.if-start-lt0.true in
    settled_two (below-zero c.args.start c.args.ops.now c.args.sizes.now c.args.starts.now c.if-ops-gt-MOST_OPS.false t)

pub returns-in_err-n : goal.returns-in_err-n
returns-in_err-n c =
    let t : lt_z c.args.start (pos 0) ≡ false = simp (to_z-of_z c.ranges.start) at c.if-start-lt0.false in
    let found : c.measure.result ≡ None = search rules in
    let passed : c.from_residual.result ≡ Err NoBlocks = search rules in
    rw passed (settled_two (not-fit c.args.start c.args.ops.now c.args.sizes.now c.args.starts.now c.if-ops-gt-MOST_OPS.false t (told_nothing c.args.ops.now (sym c.measure.ensures.value ∙ found))))

pub returns-then-end-gt2147483647 : goal.returns-then-end-gt2147483647
returns-then-end-gt2147483647 c =
    let found : c.measure.result ≡ Some c.in_ok-n.field-0 = search rules in
    let m = measured_fit c.args.start c.args.ops.now c.args.sizes.now c.args.starts.now c.natural_of-at.result c.in_ok-n.field-0 c.if-ops-gt-MOST_OPS.false (simp (to_z-of_z c.ranges.start) at c.if-start-lt0.false) (simp (to_z-of_z c.ranges.start) at c.natural_of-at.ensures.0) (sym c.measure.ensures.value ∙ found) in
    settled_two (m.0 ∙ past_end c.natural_of-at.result c.args.ops.now c.args.sizes.now c.args.starts.now (omega (arith, m.2)))

pub returns-then-sizes-n : goal.returns-then-sizes-n
returns-then-sizes-n c =
    let found : c.measure.result ≡ Some c.in_ok-n.field-0 = search rules in
    let m = measured_fit c.args.start c.args.ops.now c.args.sizes.now c.args.starts.now c.natural_of-at.result c.in_ok-n.field-0 c.if-ops-gt-MOST_OPS.false (simp (to_z-of_z c.ranges.start) at c.if-start-lt0.false) (simp (to_z-of_z c.ranges.start) at c.natural_of-at.ensures.0) (sym c.measure.ensures.value ∙ found) in
    settled_two (m.0 ∙ no-room-first c.natural_of-at.result c.args.ops.now c.args.sizes.now c.args.starts.now (omega (arith, m.2)) (omega (arith, m.1)))

pub returns-then-starts-n : goal.returns-then-starts-n
returns-then-starts-n c =
    let found : c.measure.result ≡ Some c.in_ok-n.field-0 = search rules in
    let m = measured_fit c.args.start c.args.ops.now c.args.sizes.now c.args.starts.now c.natural_of-at.result c.in_ok-n.field-0 c.if-ops-gt-MOST_OPS.false (simp (to_z-of_z c.ranges.start) at c.if-start-lt0.false) (simp (to_z-of_z c.ranges.start) at c.natural_of-at.ensures.0) (sym c.measure.ensures.value ∙ found) in
    settled_two (m.0 ∙ no-room-second c.natural_of-at.result c.args.ops.now c.args.sizes.now c.args.starts.now (omega (arith, m.2)) (omega (arith, m.1)) (omega (arith, m.1)))

pub returns : goal.returns
returns c =
    let found : c.measure.result ≡ Some c.in_ok-n.field-0 = search rules in
    let m = measured_fit c.args.start c.args.ops.now c.args.sizes.now c.args.starts.now c.natural_of-at.result c.in_ok-n.field-0 c.if-ops-gt-MOST_OPS.false (simp (to_z-of_z c.ranges.start) at c.if-start-lt0.false) (simp (to_z-of_z c.ranges.start) at c.natural_of-at.ensures.0) (sym c.measure.ensures.value ∙ found) in
    settled_two
    (m.0
    ∙ done c.natural_of-at.result c.args.ops.now c.args.sizes.now c.args.starts.now (omega (arith, m.2)) (omega (arith, m.1)) (omega (arith, m.1))
    ∙ outcome_two (same_answer c.args.ops.now c.natural_of-at.result m.2 m.1) c.write.ensures.sizes_after c.write.ensures.starts_after)

pub write-requires-clause-ops_len_bound : goal.write-requires-clause-ops_len_bound
write-requires-clause-ops_len_bound c =
    let found : c.measure.result ≡ Some c.in_ok-n.field-0 = search rules in
    let told = told_blocks c.args.ops.now c.in_ok-n.field-0 (sym c.measure.ensures.value ∙ found) in
    (c.if-ops-gt-MOST_OPS.false, told.0, omega (arith, told.2))

pub write-requires-clause-ops_in_bounds : goal.write-requires-clause-ops_in_bounds
write-requires-clause-ops_in_bounds c =
    let found : c.measure.result ≡ Some c.in_ok-n.field-0 = search rules in
    let told = told_blocks c.args.ops.now c.in_ok-n.field-0 (sym c.measure.ensures.value ∙ found) in
    (omega (arith, told.1), omega (arith, told.1))
