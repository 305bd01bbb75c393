use Rattle.std.proofs.Common.{◌-◌, ◌≡◌, false, length, take}
use Rattle.std.specs.Io.KnownBytes.{Consumes}
use Rattle.blocks.specs.Fill.{is_over, First}
use Rattle.blocks.proofs.first.Given as goal

-- What the reads gave so far is gathered, and each gives a byte more.
abbrev pub invariant-loop-r : goal.invariant-loop-r
invariant-loop-r g l = record {
  some : is_over l.r.source ≡ false;
  first : First 0 l.r l.block;
  bytes : Consumes (g.R.Read.remaining l.fn.input) (g.R.Read.remaining l.input) (take l.r.have l.block);
}

abbrev pub decreases-loop-r : goal.decreases-loop-r
decreases-loop-r g l = length l.block - l.r.have
