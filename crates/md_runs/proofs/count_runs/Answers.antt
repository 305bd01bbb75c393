-- Each turn takes the matches that are left, a mismatch and the number behind it.
use Prim.Native.Nat.{ℕ, ◌+◌, ◌≤◌}
use mathlib.Core.Path.{◌≡◌, sym, ap, ◌∙◌}
use mathlib.Core.Bool.{true}
use native.Mathlib.Omega.{arith}
use borrow.Author.Rules.{rules}
use Rattle.std.specs.Prelude.{None}
use lib.ListN.{length, get_or}
use Rattle.sam.specs.Md.{is_capital}
use Rattle.md_rules.specs.InnerWalk.{pair_of, closed_by, open_by}
use Rattle.md_rules.proofs.RunLaws.{pair_few, closed_none, closed_some}
use Rattle.md_rules.proofs.MatchLaws.{turn, no_number, not_there, ended-are, ended-rest, ended-counted, ended-few}
use Rattle.md_runs.proofs.count_runs.Goals as goal
use Rattle.md_runs.proofs.count_runs.Goals.{then-text-at-via-then-text-at, then-text-at-via-else-text-at+then-not-is_ascii_uppercase, then-left-eq0, else-left-eq0}

pub returns-then-text-at : goal.returns-then-text-at
returns-then-text-at c =
    not_there c.args.text.now _ _ _ _ _ c.loop-left.at _ _ c.loop-left.invariant (omega arith) (elim c.then-text-at.branch [
      | then-text-at-via-then-text-at w ↦ λ h. absurd (omega (arith, w.if-text-at.true))
      | then-text-at-via-else-text-at+then-not-is_ascii_uppercase w ↦ λ h. sym w.is_ascii_uppercase.ensures.value ∙ w.if-not-is_ascii_uppercase.true
    ])

pub returns-in_err-f : goal.returns-in_err-f
returns-in_err-f c =
    let e : c.from_residual.result ≡ None = search rules in
    rw e
    (
    let letter : is_capital (get_or c.args.text.now c.loop-left.at 0) ≡ true =
    sym c.is_ascii_uppercase.ensures.value ∙ c.if-not-is_ascii_uppercase.false
    in
    λ f b. no_number c.args.text.now _ _ _ _ _ c.loop-left.at _ _ c.loop-left.invariant (omega arith) (omega arith) (letter) c.in_err-f.ensures f)

pub overflow_add-count : goal.overflow_add-count
overflow_add-count c =
    omega (arith, c.loop-left.invariant.few, pair_few c.loop-left.k c.loop-left.left, c.pair_count-count.ensures, c.requires.1, c.requires.2)

pub loop-left-preserved : goal.loop-left-preserved
loop-left-preserved c =
    let letter : is_capital (get_or c.args.text.now c.loop-left.at 0) ≡ true =
    sym c.is_ascii_uppercase.ensures.value ∙ c.if-not-is_ascii_uppercase.false
    in
    let k = c.loop-left.k in
    let left = c.loop-left.left in
    let now : (c.if-left-eq0.count ≡ c.loop-left.count + length (closed_by k left)) × (c.if-left-eq0.k ≡ open_by k left) =
    elim c.if-left-eq0.branch [
      | then-left-eq0 w ↦
          let z = closed_none k left w.if-left-eq0.true in
          (omega (arith, w.count-is, ap length z.0), w.k-is ∙ sym z.1)
      | else-left-eq0 w ↦
          let z = closed_some k left w.if-left-eq0.false in
          (omega (arith, w.count-is, w.pair_count-count.ensures, ap length z.0), w.k-is ∙ sym z.1)
    ]
    in
    rw (now.0, now.1)
    (turn c.args.text.now _ _ _ c.loop-left.n k c.loop-left.at left c.loop-left.count c.loop-left.invariant (omega arith) (omega arith) (letter) c.in_ok-f.f.n c.in_ok-f.f.at c.in_ok-f.ensures)

pub overflow_add-result : goal.overflow_add-result
overflow_add-result c =
    omega (arith, c.loop-left.invariant.few, pair_few c.loop-left.k c.loop-left.n, c.pair_count.ensures, c.requires.1, c.requires.2)

pub returns : goal.returns
returns c =
    let h : c.loop-left.n ≤ c.loop-left.left = omega arith in
    let e : c.loop-left.count + c.pair_count.result ≡ c.loop-left.count + length (pair_of c.loop-left.k c.loop-left.n) = ap (λ (j : ℕ). c.loop-left.count + j) c.pair_count.ensures in
    record {
      behind = c.loop-left.invariant.behind;
      are = ended-are c.args.text.now _ _ _ c.loop-left.n _ c.loop-left.at c.loop-left.left _ c.loop-left.invariant h;
      rest = ended-rest c.args.text.now _ _ _ c.loop-left.n _ c.loop-left.at c.loop-left.left _ c.loop-left.invariant h;
      counted = e ∙ ended-counted c.args.text.now _ _ _ c.loop-left.n c.loop-left.k c.loop-left.at c.loop-left.left c.loop-left.count c.loop-left.invariant h;
      few = omega (arith, e, ended-few c.args.text.now _ _ _ c.loop-left.n c.loop-left.k c.loop-left.at c.loop-left.left c.loop-left.count c.loop-left.invariant h);
    }
