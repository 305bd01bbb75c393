-- The part that is lent has the 65,536 bytes of the text room; what the printing leaves there stands behind the tab.
use Prim.Native.Nat.{ℕ, suc, ◌+◌, ◌-◌, ◌≤◌, ◌<◌}
use mathlib.Core.Path.{◌≡◌, refl, ap}
use Rattle.std.specs.Prelude.{Err}
use Rattle.answers.specs.Answer.{Answer}
use Rattle.line_rules.specs.Inner.{TextPut}
use mathlib.Core.List.{List, [], ◌∷◌}
use native.Mathlib.Omega.{arith}
use lib.ListN.{length}
use Rattle.print_rules.specs.Text.{text_of}
use Rattle.oplist.specs.Ops.{record_ops}
use Rattle.put_text.specs.Puts.{Put}
use Rattle.put_text.proofs.PutLaws.{put_then, put_as}
use Rattle.line_rules.proofs.LineLaws.{star_none, star_some, no_text, a_text}
use borrow.Author.Rules.{rules}
use Rattle.report_line.proofs.put_text.Goals as goal

width : (n : ℕ) → n + 65536 - n ≡ 65536
width n = omega arith

empty : (t : List ℕ) → length t ≡ 0 → t ≡ []
empty [] e = refl
empty (x ∷ t) e = absurd (no e)
  where
    no : suc (length t) ≡ 0 → ⊥
    no e = omega arith

pub returns-then-n-eq0 : goal.returns-then-n-eq0
returns-then-n-eq0 c =
    let t = text_of (record_ops c.args.rec.now) in
    let fits : c.put_byte-from.result + 65536 ≤ length c.put_byte-from.new.out =
    omega (arith, c.put_byte-from.ensures.put.same, c.put_byte-from.ensures.upper_bound, c.requires)
    in
    let q = a_text c.args.rec.now c.args.out.now c.put_byte-from.new.out c.cigar_to_bytes_into.new.out c.args.at c.put_byte-from.result _ _ c.put_byte-from.ensures.put c.cigar_to_bytes_into.ensures (width c.put_byte-from.result) fits c.in_ok-n.n c.in_ok-n.was in
    let z : length t ≡ 0 = omega (arith, q.count, c.if-n-eq0.true) in
    let f : Put c.args.out.now c.args.at (9 ∷ []) c.put_byte-from.result _ =
    put_as (9 ∷ t) (ap (λ (l : List ℕ). 9 ∷ l) (empty t z)) (omega (arith, c.if-n-eq0.true)) refl q.put in
    (q.long, q.told, put_as (9 ∷ (42 ∷ [])) (ap (λ (l : List ℕ). 9 ∷ l) (star_none t z)) refl refl (put_then (9 ∷ []) (42 ∷ []) f c.put_byte.ensures.put), omega (arith, c.put_byte-from.ensures.upper_bound, c.put_byte.ensures.upper_bound))

pub overflow_add-result : goal.overflow_add-result
overflow_add-result c =
    let fits : c.put_byte-from.result + 65536 ≤ length c.put_byte-from.new.out =
    omega (arith, c.put_byte-from.ensures.put.same, c.put_byte-from.ensures.upper_bound, c.requires)
    in
    let q = a_text c.args.rec.now c.args.out.now c.put_byte-from.new.out c.cigar_to_bytes_into.new.out c.args.at c.put_byte-from.result _ _ c.put_byte-from.ensures.put c.cigar_to_bytes_into.ensures (width c.put_byte-from.result) fits c.in_ok-n.n c.in_ok-n.was in
    omega (arith, q.fits)

text_as : (b d : List ℕ) (at : ℕ) (d' : List ℕ) {x y : Answer ℕ} → x ≡ y → TextPut b d at y d' → TextPut b d at x d'
text_as b d at d' e t = rw e t

pub returns-in_err-n : goal.returns-in_err-n
returns-in_err-n c =
    let fits : c.put_byte-from.result + 65536 ≤ length c.put_byte-from.new.out =
    omega (arith, c.put_byte-from.ensures.put.same, c.put_byte-from.ensures.upper_bound, c.requires)
    in
    let told : c.cigar_to_bytes_into.result ≡ Err c.in_err-n.field-0.0 = search rules in
    let passed : c.from_residual.result ≡ Err c.in_err-n.field-0.0 = search rules in
    let t = no_text c.args.rec.now c.args.out.now c.put_byte-from.new.out c.cigar_to_bytes_into.new.out c.args.at c.put_byte-from.result _ _ c.put_byte-from.ensures.put c.cigar_to_bytes_into.ensures (width c.put_byte-from.result) (fits) _ told in
    text_as c.args.rec.now c.args.out.now c.args.at _ passed t

pub returns : goal.returns
returns c =
    let t = text_of (record_ops c.args.rec.now) in
    let fits : c.put_byte-from.result + 65536 ≤ length c.put_byte-from.new.out =
    omega (arith, c.put_byte-from.ensures.put.same, c.put_byte-from.ensures.upper_bound, c.requires)
    in
    let q = a_text c.args.rec.now c.args.out.now c.put_byte-from.new.out c.cigar_to_bytes_into.new.out c.args.at c.put_byte-from.result _ _ c.put_byte-from.ensures.put c.cigar_to_bytes_into.ensures (width c.put_byte-from.result) fits c.in_ok-n.n c.in_ok-n.was in
    let z : 0 < length t = omega (arith, q.count, c.if-n-eq0.false) in
    (q.long, q.told, put_as (9 ∷ t) (ap (λ (l : List ℕ). 9 ∷ l) (star_some t z)) refl refl q.put, omega (arith, c.put_byte-from.ensures.upper_bound, q.fits))
