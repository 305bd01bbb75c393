-- The number so far and the text behind it have the columns of all.
use Prim.Native.Nat.{ℕ, ◌+◌, ◌*◌, ◌-◌}
use mathlib.Core.Path.{◌≡◌, refl, sym, ap, ◌∙◌, subst}
use mathlib.Core.Bool.{true, false}
use native.Mathlib.Omega.{arith}
use lib.ListN.{length, get_or, drop}
use Rattle.sam.specs.Text.{is_digit}
use Rattle.sam.proofs.TextLaws.{a_digit}
use Rattle.md_rules.specs.InnerWalk.{ReadAt}
use Rattle.md_rules.specs.Md.{Within.InNumber, columns_from}
use Rattle.md_rules.proofs.ByteLaws.{columns_least}
use Rattle.md_rules.proofs.PlaceLaws.{ended, past_end, none_begins, not-begun, digit-columns, digit-fits, begin-fits, none_there}
use Rattle.md_text.proofs.number.Goals as goal
use Rattle.md_text.proofs.number.Goals.{then-text-from-via-then-text-from, then-text-from-via-else-text-from+then-not-is_ascii_digit}

pub returns-then-text-from : goal.returns-then-text-from
returns-then-text-from c =
    none_there c.args.text.now c.args.from
    (elim c.then-text-from.branch [
      | then-text-from-via-then-text-from w ↦ none_begins c.args.text.now c.args.from w.if-text-from.true
      | then-text-from-via-else-text-from+then-not-is_ascii_digit w ↦ not-begun c.args.text.now c.args.from _ refl (omega arith) (sym w.is_ascii_digit.ensures.value ∙ w.if-not-is_ascii_digit.true)
    ])

pub loop-at-init : goal.loop-at-init
loop-at-init c =
    let text = c.args.text.now in
    let first = get_or text c.args.from 0 in
    let d : is_digit first ≡ true = sym c.is_ascii_digit.ensures.value ∙ c.if-not-is_ascii_digit.false in
    let k = a_digit first d in (
      omega arith,
      omega arith,
      omega (arith, k.most, c.from-n.ensures),
      d,
      begin-fits text c.args.from _ refl (omega arith) d,
      digit-columns text c.args.from _ refl (omega arith) 0 d ∙ ap (λ (m : ℕ). columns_from InNumber m (drop (c.args.from + 1) text)) (omega (arith, c.from-n.ensures)),
    )

pub returns-then-not-is_ascii_digit-2 : goal.returns-then-not-is_ascii_digit-2
returns-then-not-is_ascii_digit-2 c =
    let d = sym c.is_ascii_digit-in-loop-at.ensures.value ∙ c.if-not-is_ascii_digit-2.true in
    let v = c.loop-at.invariant in
    record { past = v.0; inside = v.1; fair = v.2; begins = v.3; onward = v.4; apart = d; columns = v.5 ∙ ended c.args.text.now c.loop-at.at c.loop-at.n d }

pub returns-then-n-gt-MOST_BASES : goal.returns-then-n-gt-MOST_BASES
returns-then-n-gt-MOST_BASES c =
    let text = c.args.text.now in
    let b = get_or text c.loop-at.at 0 in
    let d : is_digit b ≡ true = sym c.is_ascii_digit-in-loop-at.ensures.value ∙ c.if-not-is_ascii_digit-2.false in
    let p = c.loop-at.invariant.5 ∙ digit-columns text c.loop-at.at b refl (omega arith) c.loop-at.n d in
    λ f. rw p (omega (arith, columns_least (c.loop-at.n * 10 + (b - 48)) (drop (c.loop-at.at + 1) text), c.if-n-gt-MOST_BASES.true))

pub loop-at-preserved : goal.loop-at-preserved
loop-at-preserved c =
    let text = c.args.text.now in
    let b = get_or text c.loop-at.at 0 in
    let d : is_digit b ≡ true = sym c.is_ascii_digit-in-loop-at.ensures.value ∙ c.if-not-is_ascii_digit-2.false in (
      omega arith,
      omega arith,
      omega arith,
      c.loop-at.invariant.3,
      c.loop-at.invariant.4 ∙ digit-fits text c.loop-at.at b refl (omega arith) d,
      c.loop-at.invariant.5 ∙ digit-columns text c.loop-at.at b refl (omega arith) c.loop-at.n d
          ∙ ap (λ (m : ℕ). columns_from InNumber (c.loop-at.n * 10 + m) (drop (c.loop-at.at + 1) text)) (sym c.from.ensures),
    )

pub returns : goal.returns
returns c =
    let text = c.args.text.now in
    let v = c.loop-at.invariant in
    let e : c.loop-at.at ≡ length text = omega arith in
    let d = past_end text (length text) (omega arith) in
    subst (λ (k : ℕ). ReadAt text c.args.from c.loop-at.n k) e
    (record { past = v.0; inside = v.1; fair = v.2; begins = v.3; onward = v.4; apart = subst (λ (k : ℕ). is_digit (get_or text k 0) ≡ false) (sym e) d; columns = v.5 ∙ ended text c.loop-at.at c.loop-at.n (subst (λ (k : ℕ). is_digit (get_or text k 0) ≡ false) (sym e) d) })
