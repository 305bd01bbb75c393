-- Each turn puts one number more.
use mathlib.Core.Path.{refl}
use native.Mathlib.Omega.{arith}
use borrow.Author.Rules.{rules}
use lib.ListN.{length-set}
use Rattle.csi_levels.proofs.Listing.{first-none, one_more}
use Rattle.csi_levels.proofs.put_numbers.Goals as goal

pub loop-j-init : goal.loop-j-init
loop-j-init c =
    (search rules, first-none _ _ _, refl)

pub loop-j-preserved : goal.loop-j-preserved
loop-j-preserved c =
    (omega arith, one_more c.args.out.now c.loop-j.out c.args.at c.args.bin c.loop-j.j (omega arith) c.loop-j.invariant.1, simp length-set c.loop-j.invariant.2)
