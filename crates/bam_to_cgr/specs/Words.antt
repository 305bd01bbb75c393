-- What is said on standard error at the end: of a write or a read that failed, or else of what the stream lacks.
use Rattle.std.specs.Prelude.{cond, Result, Ok, Err}
use Rattle.blocks.specs.declared.Source.{Source}
use Rattle.blocks.specs.declared.Source.TheVariants.{Open, Ended, Failed, Failing}
use Rattle.bam_header.specs.Inner.{is_begun}
use Rattle.bam_rules.specs.declared.BamState.{BamState}
use Rattle.bam_to_cgr.specs.declared.Word.{Word}
use Rattle.bam_to_cgr.specs.declared.Word.TheVariants.{Nothing, HeadCut, Unread, Unwritten}

abbrev pub word_of : Source → Word → Word
word_of Open lack = lack
word_of Ended lack = lack
word_of Failed lack = Unread
word_of Failing lack = Unread

abbrev pub lack_of : BamState → Word
lack_of s = cond (is_begun s.place) Nothing HeadCut

abbrev pub end_of : {E : Type 0} → Result BamState E → Word
end_of (Ok s) = word_of s.source (lack_of s)
end_of (Err e) = Unwritten
