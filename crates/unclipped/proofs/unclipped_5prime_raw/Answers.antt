-- By the tests; the place is the 5' end of the record's ops from the given one.
use mathlib.Core.Path.{◌≡◌, ap, sym, ◌∙◌}
use Rattle.std.specs.Prelude.{Err, None, Some}
use Rattle.answers.specs.declared.Refusal.TheVariants.{Overflow}
use mir.Syntax.{w32}
use mir.Val.{to_z, of_z}
use Rattle.oplist.specs.Ops.{ops_in_bytes}
use Rattle.ends_rules.specs.Ends.{five_prime, to_place0, unclipped_from}
use Rattle.ends_rules.proofs.CaseLaws.{from_given, from_placed, none_left, some_left}
use borrow.Author.Tests.{lt-ltb}
use borrow.Author.Rules.{rules}
use Rattle.unclipped.proofs.unclipped_5prime_raw.Goals as goal

pub returns-then-bam-lt32 : goal.returns-then-bam-lt32
unfolding unclipped_from
returns-then-bam-lt32 c =
    simp (lt-ltb _ _ c.if-bam-lt32.true)

pub returns-then-count-eq0 : goal.returns-then-count-eq0
returns-then-count-eq0 c =
    from_given c.args.bam.now c.if-bam-lt32.false c.args.pos c.args.reverse (none_left c.args.bam.now _ _ c.count.ensures.value c.of_record-list.ensures c.if-count-eq0.true)

pub returns-in_err-at : goal.returns-in_err-at
returns-in_err-at c =
    let placed : to_place0 (five_prime c.args.reverse c.args.pos.0 (ops_in_bytes c.of_record-list.result.bytes.now)) ≡ unclipped_from c.args.bam.now c.args.pos c.args.reverse =
    ap (λ xs. to_place0 (five_prime c.args.reverse c.args.pos.0 xs)) c.of_record-list.ensures
    ∙ from_placed c.args.bam.now c.if-bam-lt32.false c.args.pos c.args.reverse (some_left c.args.bam.now _ _ c.count.ensures.value c.of_record-list.ensures c.if-count-eq0.false)
    in
    let e : to_z w32 (of_z w32 c.args.pos.0) ≡ c.args.pos.0 = search rules in
    let none : c.five_prime.result ≡ None = search rules in
    let passed : c.from_residual.result ≡ Err Overflow = search rules in
    passed ∙ ap to_place0 (sym none ∙ simp e at c.five_prime.ensures) ∙ placed

pub returns : goal.returns
returns c =
    let placed : to_place0 (five_prime c.args.reverse c.args.pos.0 (ops_in_bytes c.of_record-list.result.bytes.now)) ≡ unclipped_from c.args.bam.now c.args.pos c.args.reverse =
    ap (λ xs. to_place0 (five_prime c.args.reverse c.args.pos.0 xs)) c.of_record-list.ensures
    ∙ from_placed c.args.bam.now c.if-bam-lt32.false c.args.pos c.args.reverse (some_left c.args.bam.now _ _ c.count.ensures.value c.of_record-list.ensures c.if-count-eq0.false)
    in
    let e : to_z w32 (of_z w32 c.args.pos.0) ≡ c.args.pos.0 = search rules in
    let there : c.five_prime.result ≡ Some c.in_ok-at.at = search rules in
    let f : to_z w32 (of_z w32 c.in_ok-at.at) ≡ c.in_ok-at.at = search rules in
    simp f (ap to_place0 (sym there ∙ simp e at c.five_prime.ensures) ∙ placed)
