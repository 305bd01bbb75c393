use Rattle.std.proofs.Common.{w32, SFits, ◌∙◌, arith, to_z-of_z, rules}
use Rattle.signed.proofs.Halves.{twos_is}
use Rattle.signed.proofs.of_bits.Goals as goal

pub returns : goal.returns
returns c =
    let f : SFits w32 c.cast_signed.result = search rules in
    to_z-of_z f ∙ c.cast_signed.ensures ∙ twos_is c.args.n (omega arith)
