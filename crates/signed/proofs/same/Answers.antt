-- Equal bits are equal numbers.
use Rattle.signed.proofs.EqualLaws.{bits_eq}
use Rattle.signed.proofs.same.Goals as goal

pub returns : goal.returns
returns c = bits_eq c.args.a c.args.b c.ranges.a c.ranges.b
