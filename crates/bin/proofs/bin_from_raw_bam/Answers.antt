-- The tests in their order, and then the region of the length that is asked for.
use mathlib.Core.Path.{◌≡◌, ap, sym, ◌∙◌}
use Rattle.std.specs.Prelude.{Err, Ok}
use mathlib.Core.List.{List}
use Prim.Native.Nat.{ℕ, ◌≤◌}
use native.Mathlib.Omega.{arith}
use borrow.Author.Tests.{lt-ltb}
use lib.ListN.{length}
use lib.IntN.{ℤ}
use mir.Syntax.{w32}
use mir.Val.{to_z, of_z}
use Rattle.sam.specs.Record.{pos_of}
use Rattle.bin_rules.specs.Bin.{record_bin, bin_from}
use Rattle.bin_rules.proofs.Records.{before_first, from_first}
use borrow.Author.Rules.{rules}
use Rattle.bin.proofs.bin_from_raw_bam.Goals as goal

pub returns-then-bam-lt32 : goal.returns-then-bam-lt32
unfolding record_bin
returns-then-bam-lt32 c =
    simp (lt-ltb _ _ c.if-bam-lt32.true)

pub returns-then-start-lt0 : goal.returns-then-start-lt0
returns-then-start-lt0 c =
    let b : List ℕ =
    c.args.bam.now
    in
    let long : 32 ≤ length b =
    omega arith
    in
    let start : to_z w32 (of_z w32 c.own_place-start.result.0) ≡ pos_of b =
    let e : to_z w32 (of_z w32 c.own_place-start.result.0) ≡ c.own_place-start.result.0 = search rules in
    e ∙ c.own_place-start.ensures
    in
    sym (before_first (b) (long) (simp (start) at c.if-start-lt0.true))

pub returns : goal.returns
returns c =
    let long : 32 ≤ length c.args.bam.now = omega arith in
    let s : to_z w32 (of_z w32 c.own_place-start.result.0) ≡ c.own_place-start.result.0 = search rules in
    let start : to_z w32 (of_z w32 c.own_place-start.result.0) ≡ pos_of c.args.bam.now = s ∙ c.own_place-start.ensures in
    let cases : record_bin c.args.bam.now ≡ bin_from (pos_of c.args.bam.now) c.reference_length_from_raw_bam.result =
    from_first c.args.bam.now (long) (simp (start) at c.if-start-lt0.false) ∙ ap (bin_from (pos_of c.args.bam.now)) (sym c.reference_length_from_raw_bam.ensures)
    in
    let e : to_z w32 (of_z w32 c.in_ok-n.n) ≡ c.in_ok-n.n = search rules in
    (simp e at c.bin_from.ensures) ∙ ap (λ (z : ℤ). bin_from z (Ok c.in_ok-n.n)) c.own_place-start.ensures ∙ sym (cases ∙ ap (bin_from (pos_of c.args.bam.now)) c.in_ok-n.was)

pub returns-in_err-n : goal.returns-in_err-n
unfolding bin_from
returns-in_err-n c =
    let long : 32 ≤ length c.args.bam.now = omega arith in
    let s : to_z w32 (of_z w32 c.own_place-start.result.0) ≡ c.own_place-start.result.0 = search rules in
    let start : to_z w32 (of_z w32 c.own_place-start.result.0) ≡ pos_of c.args.bam.now = s ∙ c.own_place-start.ensures in
    let cases : record_bin c.args.bam.now ≡ bin_from (pos_of c.args.bam.now) c.reference_length_from_raw_bam.result =
    from_first c.args.bam.now (long) (simp (start) at c.if-start-lt0.false) ∙ ap (bin_from (pos_of c.args.bam.now)) (sym c.reference_length_from_raw_bam.ensures)
    in
    let passed : c.from_residual.result ≡ Err c.in_err-n.field-0.0 = search rules in
    passed ∙ sym (cases ∙ ap (bin_from (pos_of c.args.bam.now)) c.in_err-n.was)
