-- The op's test is the class's.
use Prim.Native.Nat.{◌%◌}
use mathlib.Core.Path.{◌≡◌, refl, sym, ap, ◌∙◌}
use mathlib.Core.Bool.{Bool, cond}
use native.Mathlib.Omega.{arith}
use Rattle.sam.specs.Op.{is_ref}
use Rattle.validity.specs.InnerStages.{code_class}
use Rattle.measure_text.specs.InnerPass.{ref_bases_of}
use Rattle.validity.proofs.StageLaws.{class_ref}
use Rattle.measure_text.proofs.PassLaws.{ref_by}
use Rattle.measure_text.proofs.ref_bases.Goals as goal

pub returns-then-consumes_ref : goal.returns-then-consumes_ref
returns-then-consumes_ref c =
    let bases : ref_bases_of (code_class c.args.code) c.args.len ≡ cond c.consumes_ref.result c.args.len 0 =
    ref_by (code_class c.args.code) c.args.len
    ∙ ap (λ (t : Bool). cond t c.args.len 0)
    (class_ref c.args.code c.requires ∙ ap is_ref {x = c.args.code} {y = c.args.code % 16} (omega (arith, c.requires)) ∙ sym c.consumes_ref.ensures)
    in
    (rw (bases, c.if-consumes_ref.true) refl, omega arith)

pub returns-else-consumes_ref : goal.returns-else-consumes_ref
returns-else-consumes_ref c =
    let bases : ref_bases_of (code_class c.args.code) c.args.len ≡ cond c.consumes_ref.result c.args.len 0 =
    ref_by (code_class c.args.code) c.args.len
    ∙ ap (λ (t : Bool). cond t c.args.len 0)
    (class_ref c.args.code c.requires ∙ ap is_ref {x = c.args.code} {y = c.args.code % 16} (omega (arith, c.requires)) ∙ sym c.consumes_ref.ensures)
    in
    (rw (bases, c.if-consumes_ref.false) refl, omega arith)
