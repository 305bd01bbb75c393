-- The two tests are the definition's.
use Rattle.std.proofs.Common.{◌≤◌, ◌<◌, length, lt-ltb, le-ltb, rules}
use Rattle.sam.specs.Record.{ops_end}
use Rattle.oplist.proofs.OpsLaws.{lies, overruns}
use Rattle.fields.specs.Fields.{cigar_area}
use Rattle.fields.proofs.cigar_area.Goals as goal

pub returns-then-not-inside : goal.returns-then-not-inside
unfolding cigar_area
returns-then-not-inside c =
    let b = c.args.bam.now in
    let h : 32 ≤ length b = search rules in
    let over : length b < ops_end b = overruns b c.area_of-area.result c.area_of-area.ensures _ c.inside.ensures c.if-not-inside.true in
    simp (le-ltb _ _ h, lt-ltb _ _ over)

pub returns : goal.returns
unfolding cigar_area
returns c =
    let b = c.args.bam.now in
    let h : 32 ≤ length b = search rules in
    let within : ops_end b ≤ length b = lies b c.area_of-area.result c.area_of-area.ensures _ c.inside.ensures c.if-not-inside.false in
    let l = c.area_of-area.ensures in
    simp (le-ltb _ _ h, le-ltb _ _ within) (rw (l.0, l.1))
