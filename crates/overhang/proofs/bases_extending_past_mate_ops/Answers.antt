-- The two tests for 3, and then the overhang of the two lists.
use mathlib.Core.Path.{◌≡◌, ap, ◌∙◌}
use Prim.Native.Nat.{ℕ, ◌≤◌, ◌<◌}
use mathlib.Core.List.{List}
use Rattle.std.specs.Prelude.{Err, None, Ok, Some}
use lib.ListN.{length}
use borrow.Author.Tests.{lt-ltb, le-ltb}
use Rattle.answers.specs.declared.Refusal.TheVariants.{TooManyOps}
use Rattle.oplist.specs.Ops.{most_ops}
use Rattle.overhang_rules.specs.Overhang.{overhang_of, bases_extending}
use borrow.Author.Rules.{rules}
use Rattle.overhang.proofs.bases_extending_past_mate_ops.Goals as goal

pub returns-in_err-own : goal.returns-in_err-own
unfolding bases_extending
returns-in_err-own c =
    let none : c.new.result ≡ None = search rules in
    let many : most_ops < length c.args.this_ops.now = rw none at c.new.ensures in
    let passed : c.from_residual.result ≡ Err TooManyOps = search rules in
    simp (lt-ltb most_ops _ many) passed

pub returns-in_err-other : goal.returns-in_err-other
unfolding bases_extending
returns-in_err-other c =
    let own : c.new.result ≡ Some c.in_ok-own.own = search rules in
    let few : (length c.args.this_ops.now ≤ most_ops) × (c.in_ok-own.own.words.now ≡ c.args.this_ops.now) = rw own at c.new.ensures in
    let none : c.new-2.result ≡ None = search rules in
    let many : most_ops < length c.args.mate_ops.now = rw none at c.new-2.ensures in
    let passed : c.from_residual-in_err-other.result ≡ Err TooManyOps = search rules in
    simp (le-ltb most_ops (length c.args.this_ops.now) few.0, lt-ltb most_ops _ many) passed

pub returns : goal.returns
unfolding bases_extending
returns c =
    let own : c.new.result ≡ Some c.in_ok-own.own = search rules in
    let few : (length c.args.this_ops.now ≤ most_ops) × (c.in_ok-own.own.words.now ≡ c.args.this_ops.now) = rw own at c.new.ensures in
    let other : c.new-2.result ≡ Some c.in_ok-other.other = search rules in
    let few-2 : (length c.args.mate_ops.now ≤ most_ops) × (c.in_ok-other.other.words.now ≡ c.args.mate_ops.now) = rw other at c.new-2.ensures in
    simp (le-ltb most_ops (length c.args.this_ops.now) few.0, le-ltb most_ops (length c.args.mate_ops.now) few-2.0)
    (ap Ok (c.overhang.ensures
    ∙ ap (λ (xs : List ℕ). overhang_of c.args.is_reverse c.args.this_pos.0 xs c.args.mate_pos.0 c.in_ok-other.other.words.now) few.1
    ∙ ap (overhang_of c.args.is_reverse c.args.this_pos.0 c.args.this_ops.now c.args.mate_pos.0) few-2.1))
