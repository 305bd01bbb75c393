use Rattle.std.proofs.Common.{ℕ, take, drop, sym, ap, ◌∙◌, arith, leb-true, leb-false}
use Rattle.oplist.specs.Ops.{ops_in_bytes}
use Rattle.oplist.proofs.OpsLaws.{area_in, area_out}
use Rattle.oplist.proofs.ops_at.Goals as goal

pub returns-then-not-inside : goal.returns-then-not-inside
returns-then-not-inside c = area_out _ _ _ (leb-false _ _ (sym c.inside.ensures ∙ c.if-not-inside.true))

pub returns : goal.returns
returns c =
    let a = c.args.area in
    let h = leb-true _ _ (sym c.inside.ensures ∙ c.if-not-inside.false) in
    ap (λ (k : ℕ). ops_in_bytes (take k (drop a.at c.args.rec.now))) (omega arith) ∙ area_in c.args.rec.now a.at a.n h
