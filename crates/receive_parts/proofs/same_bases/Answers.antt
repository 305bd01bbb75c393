-- Pairs; of an odd number the last base by itself.
use Rattle.std.proofs.Common.{ℕ, List, ◌≡◌, ◌+◌, ◌-◌, ◌*◌, ◌/◌, length, get_or, take, drop}
use mathlib.Core.Path.{ap, ◌∙◌}
use mathlib.Core.Bool.{Bool, ◌&&◌}
use native.Mathlib.Omega.{arith}
use lib.Dec.{eqb}
use Rattle.std.proofs.lemmas.Slice.{between_to_end}
use Rattle.sam.specs.Bases.{bases_of, packed}
use Rattle.sam.proofs.BaseLaws.{length_behind}
use Rattle.receive_rules.specs.Receiving.{same}
use Rattle.receive_rules.proofs.WalkLaws.{bases_odd}
use Rattle.receive_parts.proofs.same_bases.Goals as goal

pub returns : goal.returns
returns c =
    let b = c.args.rec.now in
    let bs = bases_of (drop c.args.area b) in
    let l = length_behind b c.args.area in
    let x = get_or c.args.got.now (c.args.at + c.args.n / 2) 0 in
    let e : c.alone.result ≡ get_or bs (c.args.from + c.args.n - 1) 0 * 16 + 0 =
    c.alone.ensures ∙ ap (λ (t : List ℕ). get_or (bases_of t) (c.args.from + c.args.n - 1) 0 * 16 + 0) (between_to_end b c.args.area (length b) (omega arith))
    in
    ap (λ (t : Bool). t && eqb x c.alone.result) c.same_pairs-pairs.ensures
    ∙ ap (λ (y : ℕ). same (take (c.args.n / 2) (drop c.args.at c.args.got.now)) (packed (take (2 * (c.args.n / 2)) (drop c.args.from bs))) && eqb x y) e
    ∙ bases_odd c.args.got.now bs c.args.at c.args.from c.args.n (omega arith) (omega arith) (omega arith)
