-- A stretch, then what is like it: each takes the reader on, and at the end nothing is left.
use borrow.Author.Rules.{rules}
use mathlib.Core.Path.{◌≡◌, sym, ◌∙◌}
use Rattle.std.specs.Prelude.{None}
use native.Mathlib.Omega.{arith}
use Rattle.read_text.proofs.ReadLaws.{same_taken, strict_taken, read_none, read_all}
use Rattle.read_text.proofs.read_ops.Goals as goal

pub returns-in_err-after : goal.returns-in_err-after
returns-in_err-after c =
    let e : c.from_residual.result ≡ None = search rules in
    rw e (sym (strict_taken c.args.text.now) ∙ same_taken c.args.text.now _ _ _ _ _ _ _ _ c.loop-seen.invariant.2 ∙ c.in_err-after.ensures)

pub returns-then-accept : goal.returns-then-accept
returns-then-accept c =
    read_all c.args.text.now c.loop-seen.seen.stage c.loop-seen.seen.n c.loop-seen.seen.at c.args.out.now c.loop-seen.out c.loop-seen.invariant.2 (omega arith) (sym c.accept.ensures ∙ c.if-accept.true)

pub returns-else-accept : goal.returns-else-accept
returns-else-accept c =
    read_none c.args.text.now c.loop-seen.seen.stage c.loop-seen.seen.n c.loop-seen.seen.at c.args.out.now c.loop-seen.out c.loop-seen.invariant.2 (omega arith) (sym c.accept.ensures ∙ c.if-accept.false)
