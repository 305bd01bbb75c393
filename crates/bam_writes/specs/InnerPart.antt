-- What is due first where the records begin, the mark or what is left behind it.
use Rattle.std.specs.Prelude.{ℕ, cond, List}
use Rattle.bam_header.specs.Converted.{cgr_mark}
use Rattle.bam_rules.specs.Run.{left}
use Rattle.bam_rules.specs.declared.BamState.{BamState}

abbrev pub part_of : BamState → List ℕ → List ℕ
part_of s block = cond s.marked (left s block) cgr_mark
