-- The bases, each as often as its code says.
use Prim.Native.Nat.{ℕ, ◌+◌, ◌*◌}
use mathlib.Core.Path.{◌≡◌, ap, ◌∙◌}
use Rattle.sam.specs.Op.{len_of, ref_len, query_len}
use Rattle.op_sums.proofs.Weights.{both_is}
use Rattle.op_sums.proofs.both_lens.Goals as goal

pub returns : goal.returns
returns c =
    let weighed : len_of c.args.op * c.weight.result ≡ ref_len c.args.op + 4294967296 * query_len c.args.op =
    ap (λ (k : ℕ). len_of c.args.op * k) c.weight.ensures ∙ both_is c.args.op
    in
    weighed
