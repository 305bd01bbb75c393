-- By the tests; the place is that of the list that the reader names, from the record's own `pos` and strand.
use Prim.Native.Nat.{ℕ}
use Rattle.std.specs.Prelude.{Err}
use Rattle.answers.specs.Answer.{Answer}
use mathlib.Core.Path.{◌≡◌, ap, sym, ◌∙◌}
use mathlib.Core.Bool.{Bool, true, false}
use mathlib.Core.List.{List}
use lib.IntN.{ℤ}
use Rattle.sam.specs.Record.{pos_of, flags_of, is_reverse, is_unmapped}
use Rattle.std.proofs.Common.{rules}
use Rattle.tag_rules.specs.Long.{read_from}
use Rattle.oplist.specs.Ops.{area_ops}
use Rattle.ends_rules.specs.Ends.{unclipped_by}
use Rattle.ends_rules.specs.declared.Unclipped.{Unclipped}
use Rattle.tag_rules.proofs.HeldLaws.{reads_list}
use Rattle.true_rules.proofs.Cases.{is_short, is-unmapped, is_mapped}
use Rattle.true_ends.proofs.true_unclipped_5prime_from_raw_bam.Goals as goal

abbrev by-own : List ℕ → List ℕ → Answer Unclipped
by-own b xs = unclipped_by xs (record { 0 = pos_of b }) (is_reverse (flags_of b))

pub returns-then-bam-lt32 : goal.returns-then-bam-lt32
returns-then-bam-lt32 c =
    is_short c.args.bam.now c.if-bam-lt32.true

pub returns-then-is_unmapped : goal.returns-then-is_unmapped
returns-then-is_unmapped c =
    is-unmapped c.args.bam.now c.if-bam-lt32.false (ap is_unmapped (sym c.u16_at-flags.ensures.0) ∙ sym c.is_unmapped.ensures ∙ c.if-is_unmapped.true)

pub returns : goal.returns
returns c =
    let mapped : is_unmapped (flags_of c.args.bam.now) ≡ false =
    ap is_unmapped (sym c.u16_at-flags.ensures.0) ∙ sym c.is_unmapped.ensures ∙ c.if-is_unmapped.false
    in
    c.unclipped_by.ensures
    ∙ ap (λ (xs : List ℕ). unclipped_by xs c.own_place.result c.is_reverse.result) c.ops_at.ensures
    ∙ ap (λ (z : ℤ). unclipped_by (area_ops c.args.bam.now c.in_ok-area.area.at c.in_ok-area.area.n) (record { 0 = z }) c.is_reverse.result) c.own_place.ensures
    ∙ ap (λ (t : Bool). unclipped_by (area_ops c.args.bam.now c.in_ok-area.area.at c.in_ok-area.area.n) (record { 0 = pos_of c.args.bam.now }) t) (c.is_reverse.ensures ∙ ap is_reverse c.u16_at-flags.ensures.0)
    ∙ sym (reads_list Err (by-own c.args.bam.now) c.args.bam.now _ _ (sym c.in_ok-area.ensures))
    ∙ is_mapped c.args.bam.now c.if-bam-lt32.false mapped

pub returns-in_err-area : goal.returns-in_err-area
returns-in_err-area c =
    let mapped : is_unmapped (flags_of c.args.bam.now) ≡ false =
    ap is_unmapped (sym c.u16_at-flags.ensures.0) ∙ sym c.is_unmapped.ensures ∙ c.if-is_unmapped.false
    in
    let passed : c.from_residual.result ≡ read_from Err (by-own c.args.bam.now) c.args.bam.now c.true_list.result = search rules in
    passed
    ∙ ap (read_from Err (by-own c.args.bam.now) c.args.bam.now) c.true_list.ensures
    ∙ is_mapped c.args.bam.now c.if-bam-lt32.false mapped
