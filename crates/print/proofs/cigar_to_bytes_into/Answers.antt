-- Past its test the text is that of the record's own list.
use Prim.Native.Nat.{ℕ}
use mathlib.Core.Path.{sym, ap, ◌∙◌}
use mathlib.Core.List.{List}
use Rattle.answers.proofs.Unique.{settled, resettled}
use Rattle.print_rules.specs.Text.{printed_ops}
use Rattle.print_rules.proofs.AnswerLaws.{short, of-ops}
use Rattle.print.proofs.cigar_to_bytes_into.Goals as goal

pub returns-then-bam-lt32 : goal.returns-then-bam-lt32
returns-then-bam-lt32 c =
    settled (short _ _ c.if-bam-lt32.true)

pub returns : goal.returns
returns c =
    resettled
    (of-ops c.args.bam.now c.args.out.now c.if-bam-lt32.false ∙ ap (λ (l : List ℕ). printed_ops l c.args.out.now) (sym c.of_record.ensures))
    c.print_ops.ensures
