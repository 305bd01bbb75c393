-- Each arm is one law of the walk; the bounds follow from an op's length below 2^28.
use mathlib.Core.Path.{sym, ◌∙◌}
use native.Mathlib.Omega.{arith}
use borrow.Author.Tests.{not-true, not-false}
use Rattle.ends_rules.proofs.TailLaws.{meets_ref, meets_other, meets_early, meets_clip, no_clip, clip-len}
use Rattle.end_sums.proofs.meet.Goals as goal

pub returns-then-consumes_ref-clause-by_index : goal.returns-then-consumes_ref-clause-by_index
returns-then-consumes_ref-clause-by_index c =
    λ xs. meets_ref c.args.w c.args.op xs c.requires.2 _ c.length_of.ensures.0 (sym c.consumes_ref.ensures ∙ c.if-consumes_ref.true)

pub returns-then-not-is_clip-clause-by_index : goal.returns-then-not-is_clip-clause-by_index
returns-then-not-is_clip-clause-by_index c =
    λ xs. meets_other c.args.w c.args.op xs c.requires.2 (sym c.consumes_ref.ensures ∙ c.if-consumes_ref.false) (no_clip c.args.op (sym c.is_clip.ensures ∙ c.if-not-is_clip.true))

pub returns-then-not-w-clause-by_index : goal.returns-then-not-w-clause-by_index
returns-then-not-w-clause-by_index c =
    λ xs. meets_early c.args.w c.args.op xs c.requires.2 (sym c.consumes_ref.ensures ∙ c.if-consumes_ref.false) (not-true _ c.if-not-w.true)

pub returns-then-w-clips-clause-by_index : goal.returns-then-w-clips-clause-by_index
returns-then-w-clips-clause-by_index c = λ xs. meets_clip c.args.w c.args.op xs c.requires.2 _ _
    (c.length_of-2.ensures.0 ∙ sym (clip-len c.args.op (sym c.is_clip.ensures ∙ c.if-not-is_clip.false)))
    (sym c.consumes_ref.ensures ∙ c.if-consumes_ref.false)
    (not-false _ c.if-not-w.false)
    (omega arith)

pub returns-clause-by_index : goal.returns-clause-by_index
returns-clause-by_index c = λ xs. meets_clip c.args.w c.args.op xs c.requires.2 _ _
    (c.length_of-2.ensures.0 ∙ sym (clip-len c.args.op (sym c.is_clip.ensures ∙ c.if-not-is_clip.false)))
    (sym c.consumes_ref.ensures ∙ c.if-consumes_ref.false)
    (not-false _ c.if-not-w.false)
    (omega arith)
