-- Both readings are of one text.
use mathlib.Core.Path.{◌≡◌, ap, ◌∙◌, subst}
use Rattle.std.specs.Prelude.{Option, ℕ}
use mathlib.Core.Bool.{true}
use mathlib.Core.List.{[], ◌∷◌}
use native.Mathlib.Omega.{arith}
use lib.ListN.{length}
use lib.Seq.{take_all}
use Rattle.lists.specs.Lists.{splice}
use Rattle.answers.proofs.Unique.{settled}
use Rattle.text_rules.specs.Text.{text_ops}
use Rattle.text_rules.specs.Strict.{strict}
use Rattle.read_text.specs.InnerRead.{ReadTo}
use Rattle.parsed_rules.proofs.ParsedLaws.{not_strict, too_many, no_place, all_told}
use Rattle.strict_text.proofs.in_two.Goals as goal

pub returns-in_default : goal.returns-in_default
returns-in_default c =
    settled (not_strict c.args.text.now c.args.out.now (subst (λ (r : Option ℕ). ReadTo c.args.text.now (0 ∷ []) r c.read_ops.new.out) c.in_default.is c.read_ops.ensures))

pub returns-then-n-gt-MOST_OPS : goal.returns-then-n-gt-MOST_OPS
returns-then-n-gt-MOST_OPS c =
    let told : (strict c.args.text.now ≡ true) × (length (text_ops c.args.text.now) ≡ c.in-Some.n) =
    let t = subst (λ (r : Option ℕ). ReadTo c.args.text.now (0 ∷ []) r c.read_ops.new.out) c.in-Some.is c.read_ops.ensures in
    (t.0, t.1)
    in
    settled (too_many c.args.text.now c.args.out.now c.in-Some.n (told).0 (told).1 (omega (arith, c.if-n-gt-MOST_OPS.true)))

pub returns-then-out-n : goal.returns-then-out-n
returns-then-out-n c =
    let told : (strict c.args.text.now ≡ true) × (length (text_ops c.args.text.now) ≡ c.in-Some.n) =
    let t = subst (λ (r : Option ℕ). ReadTo c.args.text.now (0 ∷ []) r c.read_ops.new.out) c.in-Some.is c.read_ops.ensures in
    (t.0, t.1)
    in
    settled (no_place c.args.text.now c.args.out.now c.in-Some.n (told).0 (told).1 (omega (arith, c.if-n-gt-MOST_OPS.false)) c.if-out-n.true)

pub returns : goal.returns
returns c =
    let told : (strict c.args.text.now ≡ true) × (length (text_ops c.args.text.now) ≡ c.in-Some.n) =
    let t = subst (λ (r : Option ℕ). ReadTo c.args.text.now (0 ∷ []) r c.read_ops.new.out) c.in-Some.is c.read_ops.ensures in
    (t.0, t.1)
    in
    let t = subst (λ (r : Option ℕ). ReadTo c.args.text.now c.args.out.now r c.read_ops-2.new.out) c.in-Some-read_ops.is c.read_ops-2.ensures in
    let e = (told).1 in
    settled (all_told c.args.text.now c.args.out.now c.in-Some-read_ops.written t.0 t.1 (omega (arith, e, t.1, c.if-n-gt-MOST_OPS.false)) (omega (arith, e, t.1, c.if-out-n.false)) _
    (t.3 ∙ ap (splice c.args.out.now 0) (take_all (length c.args.out.now) (text_ops c.args.text.now) (omega (arith, e, c.if-out-n.false)))))
