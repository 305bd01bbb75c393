-- The two tests are the definition's; the part is the op area.
use Rattle.std.proofs.Common.{ℕ, ◌+◌, ◌-◌, ◌*◌, ◌≤◌, ◌<◌, ap, ◌∙◌, arith, length, take, drop, lt-ltb, le-ltb}
use Rattle.sam.specs.Record.{op_count_of, ops_end}
use Rattle.oplist.proofs.OpsLaws.{lies, overruns}
use Rattle.fields.specs.Fields.{cigar_part}
use Rattle.fields.proofs.op_bytes.Goals as goal

pub returns-then-bam-lt32 : goal.returns-then-bam-lt32
unfolding cigar_part
returns-then-bam-lt32 c = simp (lt-ltb _ _ c.if-bam-lt32.true)

pub returns-then-not-inside : goal.returns-then-not-inside
unfolding cigar_part
returns-then-not-inside c =
    let b = c.args.bam.now in
    let over : length b < ops_end b = overruns b c.area_of-area.result c.area_of-area.ensures _ c.inside.ensures c.if-not-inside.true in
    simp (le-ltb _ _ c.if-bam-lt32.false, lt-ltb _ _ over)

pub returns : goal.returns
unfolding cigar_part
returns c =
    let b = c.args.bam.now in
    let list = c.area_of-area.result in
    let l = c.area_of-area.ensures in
    let within : ops_end b ≤ length b = lies b list l _ c.inside.ensures c.if-not-inside.false in
    simp (le-ltb _ _ c.if-bam-lt32.false, le-ltb _ _ within)
    (ap (λ (k : ℕ). take k (drop list.at b)) {x = list.at + 4 * list.n - list.at} {y = 4 * op_count_of b} (omega (arith, l.1))
    ∙ ap (λ (k : ℕ). take (4 * op_count_of b) (drop k b)) l.0)
