-- A whole stream, of an input and an output that say their bytes: what is written stands behind what the output held, and it is what the stream converts to.
use Rattle.std.proofs.Common.{ℕ, ◌≡◌, true, false, List, [], ◌++◌, take, Option, None, Some, IfSome, sym, ap, subst, ◌∙◌}
use Rattle.std.specs.Io.KnownBytes.{Consumes, Appends, IsAtEnd}
use Rattle.std.proofs.KnownBytes.{Appends-nil, Consumes-trans, Consumes-all}
use Rattle.blocks.specs.Fill.{is_over, First}
use Rattle.blocks.specs.Tied.{Tied}
use Rattle.blocks.specs.declared.Read.{Read}
use Rattle.blocks.proofs.BlockLaws.{gathered}
use Rattle.bam_header.specs.Header.{is_bam, head_of}
use Rattle.bam_header.specs.Converted.{converted}
use Rattle.bam_rules.specs.Run.{BamCame, Wrote, Wrote.ended, Wrote.refused}
use Rattle.bam_rules.specs.declared.BamState.{BamState}
use Rattle.bam_rules.proofs.RunLaws.{converts}

-- what is written, where the input gave all of a stream
all_given : (had held holds : Option (List ℕ)) (read written : List ℕ) → IfSome had (λ stream. read ≡ stream) → Wrote read written → Appends held holds written
    → IfSome had (λ stream. Appends held holds (converted (head_of stream)))
all_given None held holds read written e w p = tt
all_given (Some stream) held holds read written e w p = subst (Appends held holds) (sym (ap (λ (l : List ℕ). converted (head_of l)) (sym e) ∙ converts w)) p

-- a stream with the magic, that was read to its end
pub whole_came : {first block : List ℕ} {s : BamState} (before : Option (List ℕ)) {had left held holds : Option (List ℕ)} → Consumes before had first → (c : BamCame s block) → is_over s.source ≡ true → IsAtEnd left
    → Tied first had left held holds c.read c.written → IfSome before (λ stream. Appends held holds (converted (head_of stream)))
whole_came {first = first} before {had} {left} {held} {holds} b c e z t =
    all_given before held holds c.read c.written (Consumes-all before left (first ++ t.more) [] c.read (Consumes-trans before had left first t.more b t.took) z t.behind) (ended c.ran e) t.wrote

-- another stream
pub whole_refused : {block : List ℕ} {r : Read} (before had held : Option (List ℕ)) (f : First 4 r block) → is_bam (take r.have block) ≡ false → Consumes before had (take r.have block)
    → (is_over r.source ≡ true → IsAtEnd had) → IfSome before (λ stream. Appends held held (converted (head_of stream)))
whole_refused None had held f m b z = tt
whole_refused (Some stream) None held f m b z = absurd b
whole_refused (Some stream) (Some ys) held f m b z =
    all_given (Some stream) held held (f.read ++ ys) [] (ap (λ (l : List ℕ). l ++ ys) (sym (gathered f.gathers)) ∙ sym b) (refused ys f m z) (Appends-nil held)
