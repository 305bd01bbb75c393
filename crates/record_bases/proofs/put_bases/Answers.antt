-- Pairs first; of an odd number the last base by itself.
use Rattle.std.proofs.Common.{ℕ, ◌≡◌, ◌*◌, ◌/◌, length, take, drop}
use mathlib.Core.Path.{ap, ◌∙◌}
use lib.Seq.{length-take-le}
use native.Mathlib.Omega.{arith}
use Rattle.sam.specs.Bases.{bases_of, packed}
use Rattle.sam.proofs.BaseLaws.{length_bases}
use Rattle.record_bases.proofs.PackLaws.{put_last}
use Rattle.record_bases.proofs.put_bases.Goals as goal

pub returns-then-n-eq1 : goal.returns-then-n-eq1
returns-then-n-eq1 c =
    let l = length_bases c.args.bases.now in
    let e : length (take (c.args.n / 2) c.args.out.now) ≡ c.args.n / 2 = length-take-le (c.args.n / 2) c.args.out.now (omega arith) in
    put_last (bases_of c.args.bases.now) c.args.out.now _ c.args.from c.args.n (c.args.n / 2) _ (omega arith) (omega arith) (omega arith) (c.put_pairs.ensures ∙ ap (λ (k : ℕ). packed (take (2 * k) (drop c.args.from (bases_of c.args.bases.now)))) e) c.alone.ensures
