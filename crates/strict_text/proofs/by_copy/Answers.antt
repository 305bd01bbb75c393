-- What the memory holds is the text's ops.
use Prim.Native.Nat.{◌≤◌}
use Rattle.std.specs.Prelude.{Option, Some, ℕ}
use mathlib.Core.Path.{◌≡◌, ap, ◌∙◌, subst}
use native.Mathlib.Omega.{arith}
use lib.ListN.{length, take}
use Rattle.lists.specs.Lists.{splice}
use Rattle.oplist.specs.Ops.{most_ops}
use Rattle.answers.proofs.Unique.{settled}
use Rattle.text_rules.specs.Text.{text_ops}
use Rattle.read_text.specs.InnerRead.{ReadTo}
use Rattle.parsed_rules.proofs.ParsedLaws.{not_strict, no_place, all_told}
use Rattle.read_text.proofs.ReadLaws.{held}
use Rattle.strict_text.proofs.by_copy.Goals as goal

pub returns-in_default : goal.returns-in_default
returns-in_default c =
    settled (not_strict c.args.text.now c.args.out.now (subst (λ (r : Option ℕ). ReadTo c.args.text.now c.args.ops.now r c.read_ops.new.out) c.in_default.is c.read_ops.ensures))

pub returns-then-out-n : goal.returns-then-out-n
returns-then-out-n c =
    let told : ReadTo c.args.text.now c.args.ops.now (Some c.in-Some.n) c.read_ops.new.out =
    subst (λ (r : Option ℕ). ReadTo c.args.text.now c.args.ops.now r c.read_ops.new.out) c.in-Some.is c.read_ops.ensures
    in
    let few : c.in-Some.n ≤ most_ops =
    let t = told in omega (arith, t.2, c.requires.0, c.requires.1)
    in
    settled (no_place c.args.text.now c.args.out.now c.in-Some.n (told).0 (told).1 (few) c.if-out-n.true)

pub returns : goal.returns
returns c =
    let told : ReadTo c.args.text.now c.args.ops.now (Some c.in-Some.n) c.read_ops.new.out =
    subst (λ (r : Option ℕ). ReadTo c.args.text.now c.args.ops.now r c.read_ops.new.out) c.in-Some.is c.read_ops.ensures
    in
    let few : c.in-Some.n ≤ most_ops =
    let t = told in omega (arith, t.2, c.requires.0, c.requires.1)
    in
    let kept : (c.in-Some.n ≤ length c.read_ops.new.out) × (take c.in-Some.n c.read_ops.new.out ≡ text_ops c.args.text.now) =
    held c.args.text.now c.args.ops.now _ _ (told) c.requires.0
    in
    settled (all_told c.args.text.now c.args.out.now c.in-Some.n (told).0 (told).1 (few) (omega arith) _
    (c.copy.ensures ∙ ap (splice c.args.out.now 0) (kept).1))
