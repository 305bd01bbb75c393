-- The outcome is decided by the record's bin; its two bytes are the two stores.
use Prim.Native.Nat.{ℕ}
use Rattle.std.specs.Prelude.{Err, Ok}
use Rattle.answers.specs.Answer.{Answer}
use mathlib.Core.Path.{◌≡◌, sym, ap, ◌∙◌}
use mathlib.Core.List.{List}
use borrow.Author.Tests.{lt-ltb}
use Rattle.answers.specs.declared.Refusal.TheVariants.{ShortRecord}
use Rattle.answers.proofs.Unique.{settled}
use borrow.Author.Rules.{rules}
use Rattle.bin_rules.specs.Bin.{record_bin, with_bin, set_bin}
use Rattle.bin.proofs.set_bin_from_raw_bam.Goals as goal

-- what the record's bin came to decides the outcome
decided : (b : List ℕ) (r : Answer ℕ) → r ≡ record_bin b → set_bin b ≡ with_bin b r
unfolding set_bin
decided b r e = ap (with_bin b) (sym e)

pub returns-then-bam-lt32 : goal.returns-then-bam-lt32
unfolding record_bin
returns-then-bam-lt32 c =
    settled (decided c.args.bam.now (Err ShortRecord) (simp (lt-ltb _ _ c.if-bam-lt32.true)))

pub returns : goal.returns
returns c =
    settled (decided c.args.bam.now (Ok c.in_ok-n.n) (sym c.in_ok-n.was ∙ c.bin_from_raw_bam.ensures))

pub returns-in_err-n : goal.returns-in_err-n
returns-in_err-n c =
    let passed : c.from_residual.result ≡ Err c.in_err-n.field-0.0 = search rules in
    rw passed (settled (decided c.args.bam.now (Err c.in_err-n.field-0.0) (sym c.in_err-n.was ∙ c.bin_from_raw_bam.ensures)))
