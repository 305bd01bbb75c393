-- The part begins and ends where the list does, in the record.
use Prim.Native.Nat.{◌+◌, ◌*◌, ◌≤◌}
use Rattle.std.specs.Prelude.{Ok}
use mathlib.Core.Path.{◌≡◌, sym, ◌∙◌}
use native.Mathlib.Omega.{arith}
use lib.ListN.{length}
use Rattle.tag_rules.specs.Long.{true_list}
use Rattle.tag_rules.proofs.HeldLaws.{within}
use Rattle.true_cigar.proofs.true_bytes.Goals as goal

pub overflow_add-end : goal.overflow_add-end
overflow_add-end c =
    let found : true_list c.args.bam.now ≡ Ok c.in-Ok.area =
    sym c.true_list.ensures ∙ c.in-Ok.is
    in
    let inside : c.in-Ok.area.at + 4 * c.in-Ok.area.n ≤ length c.args.bam.now =
    within c.args.bam.now _ _ found
    in
    omega (arith, inside)

pub slice_bounds-result-end-2 : goal.slice_bounds-result-end-2
slice_bounds-result-end-2 c =
    let found : true_list c.args.bam.now ≡ Ok c.in-Ok.area =
    sym c.true_list.ensures ∙ c.in-Ok.is
    in
    let inside : c.in-Ok.area.at + 4 * c.in-Ok.area.n ≤ length c.args.bam.now =
    within c.args.bam.now _ _ found
    in
    omega (arith, inside)
