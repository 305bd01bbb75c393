use Rattle.std.proofs.Common.{◌*◌, ◌≡◌, ◌≤◌, take}
use Rattle.std.specs.Io.KnownBytes.{IsAtEnd}
use Rattle.blocks.specs.Tied.{Tied}
use Rattle.blocks.specs.declared.Source.TheVariants.{Ended}
use Rattle.report_rules.proofs.RunLaws.{Along}
use Rattle.report.proofs.report.Given as goal

-- A turn counts no more records than it has bytes at hand, and the program ran so far.
abbrev pub invariant-loop : goal.invariant-loop
invariant-loop g l = record {
  have : l.s.have ≤ 65536;
  put : l.s.put ≤ 65280;
  counted : l.s.records ≤ 65536 * l.counter;
  end : l.s.source ≡ Ended → IsAtEnd (g.R.Read.remaining l.input);
  along : (a : Along l.counter l.s l.block l.out)
      × Tied (take l.fn.first.have l.fn.block) (g.R.Read.remaining l.fn.input) (g.R.Read.remaining l.input) (g.W.Write.contents l.fn.to) (g.W.Write.contents l.to) a.read a.written;
}
