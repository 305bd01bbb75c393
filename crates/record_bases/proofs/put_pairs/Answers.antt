-- Bytes as they stand are their bases, packed; from an odd base on they are shifted.
use Rattle.std.proofs.Common.{ℕ, ◌≡◌, ◌+◌, ◌-◌, ◌/◌, length, take, drop, List}
use mathlib.Core.Path.{ap, ◌∙◌}
use native.Mathlib.Omega.{arith}
use lib.ListN.{length-drop}
use lib.Seq.{take_all}
use Rattle.sam.proofs.BaseLaws.{aligned}
use Rattle.record_bases.proofs.PackLaws.{shifted, odd_from}
use Rattle.record_bases.proofs.put_pairs.Goals as goal

pub returns-then-from-eq0 : goal.returns-then-from-eq0
returns-then-from-eq0 c =
    let s = c.args.bases.now in
    let k = length c.args.out.now in
    let e : c.args.from / 2 + length c.args.out.now - c.args.from / 2 ≡ length c.args.out.now = omega arith in
    c.copy_bytes.ensures
    ∙ ap (λ (n : ℕ). take n (drop (c.args.from / 2) s)) e
    ∙ ap (λ (n : ℕ). take k (drop n s)) {x = c.args.from / 2} {y = 0 + c.args.from / 2} (omega arith)
    ∙ aligned s 0 c.args.from k (λ i. omega (arith, c.type_inv.bases i)) (omega arith) (omega arith)

pub returns : goal.returns
returns c =
    let s = c.args.bases.now in
    let l = length-drop (c.args.from / 2) s in
    c.put_shifted.ensures
    ∙ ap (λ (t : List ℕ). shifted t (length c.args.out.now)) (take_all (length s - c.args.from / 2) (drop (c.args.from / 2) s) (omega arith))
    ∙ odd_from s c.args.from (length c.args.out.now) (omega arith)
