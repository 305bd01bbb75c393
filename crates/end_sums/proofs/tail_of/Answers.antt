-- Whatever ops are left, the walk comes to the same as from its start.
use Rattle.std.proofs.Common.{ap, sym, ◌∙◌, arith}
use Rattle.lists.proofs.Walks.{done}
use Rattle.ends_rules.specs.InnerTails.{Met, met}
use Rattle.ends_rules.proofs.TailLaws.{met_all, met_none}
use Rattle.end_sums.proofs.tail_of.Goals as goal

pub returns : goal.returns
returns g c =
    let xs = g.L.OpList.ops c.args.list in
    let e = sym (met_none c.loop-i.w (omega arith)) ∙ ap (met c.loop-i.w) (sym (done xs c.loop-i.i (omega arith))) ∙ c.loop-i.invariant.3 ∙ met_all xs in
    (ap (λ (m : Met). m.refs) e, ap (λ (m : Met). m.clips) e, ap (λ (m : Met). m.most) e, omega arith)
