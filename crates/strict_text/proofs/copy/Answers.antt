-- What was copied so far is the first of the ops.
use Prim.Native.Nat.{ℕ, ◌+◌, ◌-◌, ◌*◌, ◌<◌}
use mathlib.Core.Path.{◌≡◌, refl, sym, ap, ◌∙◌, subst}
use mathlib.Core.List.{List}
use native.Mathlib.Omega.{arith}
use lib.ListN.{length, take, get_or, set, length-set}
use Rattle.lists.specs.Lists.{splice}
use Rattle.lists.proofs.ListLaws.{splice_nil, splice_turn}
use Rattle.strict_text.proofs.copy.Goals as goal

one_more : (d ops l : List ℕ) (j : ℕ) → l ≡ splice d 0 (take j ops) → j < length ops → j < length d → set l j (get_or ops j 0) ≡ splice d 0 (take (j + 1) ops)
one_more d ops l j e h k =
    ap (λ (m : List ℕ). set m j (get_or ops j 0)) e
    ∙ subst (λ (i : ℕ). set (splice d 0 (take j ops)) i (get_or ops i 0) ≡ splice d 0 (take (j + 1) ops)) {x = 0 + j} {y = j} (omega arith) (splice_turn d 0 ops 0 j (omega arith) (omega arith))

two-more : (d ops l : List ℕ) (j : ℕ) → l ≡ splice d 0 (take j ops) → j + 1 < length ops → j + 1 < length d → set (set l j (get_or ops j 0)) (j + 1) (get_or ops (j + 1) 0) ≡ splice d 0 (take (j + 2) ops)
two-more d ops l j e h k =
    one_more d ops (set l j (get_or ops j 0)) (j + 1) (one_more d ops l j e (omega arith) (omega arith)) h k
    ∙ ap (λ (i : ℕ). splice d 0 (take i ops)) {x = j + 1 + 1} {y = j + 2} (omega arith)

pub loop-k-init : goal.loop-k-init
loop-k-init c =
    (refl, sym (splice_nil c.args.out.now 0))

pub loop-k-preserved : goal.loop-k-preserved
loop-k-preserved c = (
  simp length-set c.loop-k.invariant.0,
  two-more c.args.out.now c.args.ops.now c.loop-k.out (2 * c.loop-k.k) c.loop-k.invariant.1 (omega arith) (omega arith)
      ∙ ap (λ (i : ℕ). splice c.args.out.now 0 (take i c.args.ops.now)) {x = 2 * c.loop-k.k + 2} {y = 2 * (c.loop-k.k + 1)} (omega arith),
)

pub returns-then-n-eq1 : goal.returns-then-n-eq1
returns-then-n-eq1 c =
    let first = λ (i : ℕ). splice c.args.out.now 0 (take i c.args.ops.now) in
    one_more c.args.out.now c.args.ops.now c.loop-k.out (c.args.n - 1) (c.loop-k.invariant.1 ∙ ap first {x = 2 * c.loop-k.k} {y = c.args.n - 1} (omega arith)) (omega arith) (omega arith)
    ∙ ap first {x = c.args.n - 1 + 1} {y = c.args.n} (omega arith)
