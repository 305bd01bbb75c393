-- The number, then what the text, the figures or the first refusal say.
use Prim.Native.Nat.{ℕ}
use Rattle.std.specs.Prelude.{Err, Ok}
use Rattle.answers.specs.Answer.{Answer}
use mathlib.Core.Path.{refl, sym, ◌∙◌, subst}
use mathlib.Core.List.{List, [], ◌∷◌, ◌++◌}
use native.Mathlib.Omega.{arith}
use Rattle.answers.specs.Answers.{number_of}
use Rattle.oplist.specs.Ops.{record_ops}
use Rattle.decimal.specs.Decimal.{decimal}
use Rattle.print_rules.specs.Text.{text_of}
use Rattle.line_rules.specs.Line.{tabbed, refused_fields, or_star}
use Rattle.line_rules.specs.Inner.{TextPut, row_fields}
use Rattle.put_text.proofs.PutLaws.{put_then, put_as, put_dropped}
use Rattle.line_rules.proofs.LineLaws.{line_no_text, line_no_row, line_row}
use Rattle.report_line.proofs.line.Goals as goal

pub returns-in-Err-clause-put : goal.returns-in-Err-clause-put
returns-in-Err-clause-put c =
    let a = c.args in
    let p = c.put_number-from in
    let t = c.put_text in
    let why = c.in-Err.why in
    let e : TextPut a.rec.now p.new.out p.result (Err why) t.new.out =
    subst (λ (x : Answer ℕ). TextPut a.rec.now p.new.out p.result x t.new.out) c.in-Err.is t.ensures in
    let v = tabbed (refused_fields (number_of why)) in
    put_as (decimal a.number ++ v) (sym (line_no_text a.number a.rec.now why e.0)) refl refl
    (put_then (decimal a.number) v p.ensures.put (put_then [] v e.1 c.put_refusal.ensures.put))

pub returns-in-Err-row_of-clause-put : goal.returns-in-Err-row_of-clause-put
returns-in-Err-row_of-clause-put c =
    let a = c.args in
    let p = c.put_number-from in
    let t = c.put_text in
    let why = c.in-Err-row_of.why in
    let e : TextPut a.rec.now p.new.out p.result (Ok c.in-Ok.behind) t.new.out =
    subst (λ (x : Answer ℕ). TextPut a.rec.now p.new.out p.result x t.new.out) c.in-Ok.is t.ensures in
    let v = tabbed (refused_fields (number_of why)) in
    let k = put_dropped _ (omega (arith, p.ensures.put.same, p.ensures.upper_bound, c.requires)) e.2 in
    put_as (decimal a.number ++ v) (sym (line_no_row a.number a.rec.now e.0 _ e.1 why (sym c.row_of.ensures ∙ c.in-Err-row_of.is))) refl refl
    (put_then (decimal a.number) v p.ensures.put (put_then [] v k c.put_refusal-in-Err-row_of.ensures.put))

pub returns-in-Ok-row_of-clause-put : goal.returns-in-Ok-row_of-clause-put
returns-in-Ok-row_of-clause-put c =
    let a = c.args in
    let p = c.put_number-from in
    let t = c.put_text in
    let row = c.in-Ok-row_of.row in
    let e : TextPut a.rec.now p.new.out p.result (Ok c.in-Ok.behind) t.new.out =
    subst (λ (x : Answer ℕ). TextPut a.rec.now p.new.out p.result x t.new.out) c.in-Ok.is t.ensures in
    let x : List ℕ = 9 ∷ or_star (text_of (record_ops a.rec.now)) in
    let v = tabbed (row_fields row) in
    put_as (decimal a.number ++ (x ++ v)) (sym (line_row a.number a.rec.now e.0 _ e.1 row (sym c.row_of.ensures ∙ c.in-Ok-row_of.is))) refl refl
    (put_then (decimal a.number) (x ++ v) p.ensures.put (put_then x v e.2 c.put_row.ensures.put))
