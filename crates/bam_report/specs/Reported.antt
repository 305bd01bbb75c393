-- What `report` prints of what `bam_to_cgr` writes: the lines of the BAM stream's records; "bad input" of a damaged head, and of another stream.
use Rattle.std.specs.Prelude.{ℕ, ◌≡◌, false, List}
use Rattle.bam_header.specs.Header.{Head, Head.Records, Head.CutShort, Head.NotBam}
use Rattle.stream_rules.specs.Stream.{Reports, bad_input}

abbrev pub Reported : Head → List ℕ → Type 0
Reported (Records s) t = Reports false 0 s t
Reported CutShort t = t ≡ bad_input
Reported NotBam t = t ≡ bad_input
