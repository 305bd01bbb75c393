-- Base i stands in byte i / 2, in the high half where i is even.
use Rattle.std.proofs.Common.{ℕ, ◌+◌, ◌*◌, ◌/◌, get_or}
use mathlib.Core.Path.{sym, ap, ◌∙◌}
use native.Mathlib.Omega.{arith}
use Rattle.sam.specs.Bases.{bases_of}
use Rattle.sam.proofs.BaseLaws.{first_base, second_base}
use Rattle.record_bases.proofs.base_at.Goals as goal

pub returns-then-i-eq0 : goal.returns-then-i-eq0
returns-then-i-eq0 c = (
  c.high.ensures.0 ∙ sym (first_base c.args.bases.now (c.args.i / 2)) ∙ ap (λ (k : ℕ). get_or (bases_of c.args.bases.now) k 0) {x = 2 * (c.args.i / 2)} {y = c.args.i} (omega arith),
  c.high.ensures.1,
)

pub returns : goal.returns
returns c = (
  c.low.ensures.0 ∙ sym (second_base c.args.bases.now (c.args.i / 2)) ∙ ap (λ (k : ℕ). get_or (bases_of c.args.bases.now) k 0) {x = 2 * (c.args.i / 2) + 1} {y = c.args.i} (omega arith),
  c.low.ensures.1,
)
