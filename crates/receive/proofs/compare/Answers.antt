-- The header, which tells how long the other parts are; then those.
use mathlib.Core.Path.{◌≡◌, sym, ◌∙◌}
use native.Mathlib.Omega.{arith}
use mathlib.Core.Bool.{true}
use Rattle.record_rules.specs.InnerPlan.{change_by}
use Rattle.receive_rules.specs.Receiving.{same_header}
use Rattle.receive_rules.proofs.HeaderLaws.{header_sizes}
use Rattle.record_rules.proofs.PlanLaws.{ops_left}
use Rattle.receive_rules.proofs.AnswerLaws.{header_differs, header_same}
use Rattle.receive.proofs.compare.Goals as goal

pub returns-then-not-same_header : goal.returns-then-not-same_header
returns-then-not-same_header c =
    header_differs c.args.got.now c.args.rec.now (change_by c.args.rec.now c.args.start c.args.p) (sym (c.same_header.ensures c.args.start) ∙ c.if-not-same_header.true)

pub compare_behind-requires-clause-got_value : goal.compare_behind-requires-clause-got_value
compare_behind-requires-clause-got_value c =
    let equal : same_header c.args.got.now c.args.rec.now (change_by c.args.rec.now c.args.start c.args.p) ≡ true =
    sym (c.same_header.ensures c.args.start) ∙ c.if-not-same_header.false
    in
    let l = ops_left c.args.rec.now c.args.start c.args.p c.requires.fits in
    let z = header_sizes c.args.got.now c.args.rec.now (change_by c.args.rec.now c.args.start c.args.p) (omega (arith, c.requires.fits.whole)) (omega arith) (omega arith) (equal) in
    z.name_is

pub compare_behind-requires-clause-got_value_2 : goal.compare_behind-requires-clause-got_value_2
compare_behind-requires-clause-got_value_2 c =
    let equal : same_header c.args.got.now c.args.rec.now (change_by c.args.rec.now c.args.start c.args.p) ≡ true =
    sym (c.same_header.ensures c.args.start) ∙ c.if-not-same_header.false
    in
    let l = ops_left c.args.rec.now c.args.start c.args.p c.requires.fits in
    let z = header_sizes c.args.got.now c.args.rec.now (change_by c.args.rec.now c.args.start c.args.p) (omega (arith, c.requires.fits.whole)) (omega arith) (omega arith) (equal) in
    z.count-is ∙ sym l

pub compare_behind-requires-clause-got_value_3 : goal.compare_behind-requires-clause-got_value_3
compare_behind-requires-clause-got_value_3 c =
    let equal : same_header c.args.got.now c.args.rec.now (change_by c.args.rec.now c.args.start c.args.p) ≡ true =
    sym (c.same_header.ensures c.args.start) ∙ c.if-not-same_header.false
    in
    let l = ops_left c.args.rec.now c.args.start c.args.p c.requires.fits in
    let z = header_sizes c.args.got.now c.args.rec.now (change_by c.args.rec.now c.args.start c.args.p) (omega (arith, c.requires.fits.whole)) (omega arith) (omega arith) (equal) in
    z.len_is

pub returns : goal.returns
returns c =
    let equal : same_header c.args.got.now c.args.rec.now (change_by c.args.rec.now c.args.start c.args.p) ≡ true =
    sym (c.same_header.ensures c.args.start) ∙ c.if-not-same_header.false
    in
    header_same c.args.got.now c.args.rec.now (change_by c.args.rec.now c.args.start c.args.p) (equal) _ c.compare_behind.ensures
