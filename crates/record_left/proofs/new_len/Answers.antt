-- The query that is lost is that of the ops taken, less that of those put in their place.
use Prim.Native.Nat.{ℕ}
use mathlib.Core.Path.{ap, ◌∙◌}
use Rattle.lists.proofs.ListLaws.{length_facing}
use mathlib.Core.List.{List}
use native.Mathlib.Omega.{arith}
use lib.ListN.{length, take}
use Rattle.lists.specs.Lists.{facing, sum_of}
use Rattle.sam.specs.Op.{query_len}
use Rattle.oplist.specs.Ops.{record_ops}
use Rattle.record_rules.proofs.PlanLaws.{lost_is, ops_count}
use Rattle.record_left.proofs.new_len.Goals as goal

pub first_query-gone-requires : goal.first_query-gone-requires
first_query-gone-requires c =
    let n = ops_count c.args.bam.now c.requires.bam_in_bounds in
    let e = ap length (c.new.ensures ∙ ap (facing c.args.start) c.of_record.ensures) in
    let l = length_facing c.args.start (record_ops c.args.bam.now) in
    omega arith

pub returns : goal.returns
returns c =
    let l = lost_is c.args.start (record_ops c.args.bam.now) c.args.p in
    let e = ap (λ (xs : List ℕ). sum_of query_len (take c.args.p.skip xs)) (c.new.ensures ∙ ap (facing c.args.start) c.of_record.ensures) in
    (omega arith, omega arith)
