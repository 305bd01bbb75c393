-- What is written of a BAM stream: its records behind the mark that `report` looks for, `CGR` and version 1; of a head that is damaged, nothing.
use Rattle.std.specs.Prelude.{ℕ, List, [], ◌∷◌, ◌++◌}
use Rattle.bam_header.specs.Header.{Head, Head.Records, Head.CutShort, Head.NotBam}

abbrev pub cgr_mark : List ℕ
cgr_mark = 67 ∷ 71 ∷ 82 ∷ 1 ∷ 0 ∷ []

abbrev pub converted : Head → List ℕ
converted (Records s) = cgr_mark ++ s
converted CutShort = []
converted NotBam = []
