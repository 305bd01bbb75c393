use Rattle.std.proofs.Common.{take}
use Rattle.blocks.specs.Tied.{Tied}
use Rattle.bam_rules.proofs.RunLaws.{BamAlong}
use Rattle.bam_to_cgr.proofs.convert.Given as goal

-- The program ran so far.
abbrev pub invariant-loop : goal.invariant-loop
invariant-loop g l =
    (a : BamAlong l.counter l.s l.block)
    × Tied (take l.fn.first.have l.fn.block) (g.R.Read.remaining l.fn.input) (g.R.Read.remaining l.input) (g.W.Write.contents l.fn.to) (g.W.Write.contents l.to) a.read a.written
