-- The sums one by one, each where those before it are there.
use Rattle.std.proofs.Common.{◌≡◌, sym, ◌∙◌, Some, None, rules, w32, to_z, of_z}
use Rattle.end_sums.proofs.Steps.{no_refs, no_end, no_clips, no_clipped, clipped}
use Rattle.end_sums.proofs.end_from.Goals as goal

pub returns-in_err-whole : goal.returns-in_err-whole
returns-in_err-whole c =
    let none : c.whole.result ≡ None = search rules in
    let passed : c.from_residual.result ≡ None = search rules in
    passed ∙ no_refs c.args.at _ _ (sym c.whole.ensures ∙ none)

pub returns-in_err-end : goal.returns-in_err-end
returns-in_err-end c =
    let r = c.in_ok-whole.field-0 in
    let refs : c.whole.result ≡ Some r = search rules in
    let x : to_z w32 (of_z w32 c.args.at) ≡ c.args.at = search rules in
    let y : to_z w32 (of_z w32 r) ≡ r = search rules in
    let none : c.checked_add.result ≡ None = search rules in
    let passed : c.from_residual-in_err-end.result ≡ None = search rules in
    passed ∙ no_end c.args.at _ _ r (sym c.whole.ensures ∙ refs) (sym (simp (x, y) at c.checked_add.ensures) ∙ none)

pub returns-in_err-trailing : goal.returns-in_err-trailing
returns-in_err-trailing c =
    let r = c.in_ok-whole.field-0 in
    let refs : c.whole.result ≡ Some r = search rules in
    let x : to_z w32 (of_z w32 c.args.at) ≡ c.args.at = search rules in
    let y : to_z w32 (of_z w32 r) ≡ r = search rules in
    let end : c.checked_add.result ≡ Some c.in_ok-end.end = search rules in
    let none : c.trailing.result ≡ None = search rules in
    let passed : c.from_residual-in_err-trailing.result ≡ None = search rules in
    passed ∙ no_clips c.args.at _ _ r (sym c.whole.ensures ∙ refs) _ (sym (simp (x, y) at c.checked_add.ensures) ∙ end) (sym c.trailing.ensures ∙ none)

pub returns-in_err-clipped : goal.returns-in_err-clipped
returns-in_err-clipped c =
    let r = c.in_ok-whole.field-0 in
    let refs : c.whole.result ≡ Some r = search rules in
    let x : to_z w32 (of_z w32 c.args.at) ≡ c.args.at = search rules in
    let y : to_z w32 (of_z w32 r) ≡ r = search rules in
    let end : c.checked_add.result ≡ Some c.in_ok-end.end = search rules in
    let k = c.in_ok-trailing.field-0 in
    let clips : c.trailing.result ≡ Some k = search rules in
    let z : to_z w32 (of_z w32 c.in_ok-end.end) ≡ c.in_ok-end.end = search rules in
    let u : to_z w32 (of_z w32 k) ≡ k = search rules in
    let none : c.checked_add-2.result ≡ None = search rules in
    let passed : c.from_residual-in_err-clipped.result ≡ None = search rules in
    passed
    ∙ no_clipped c.args.at _ _ r (sym c.whole.ensures ∙ refs) _ (sym (simp (x, y) at c.checked_add.ensures) ∙ end) k (sym c.trailing.ensures ∙ clips)
    (sym (simp (z, u) at c.checked_add-2.ensures) ∙ none)

pub returns : goal.returns
returns c =
    let r = c.in_ok-whole.field-0 in
    let refs : c.whole.result ≡ Some r = search rules in
    let x : to_z w32 (of_z w32 c.args.at) ≡ c.args.at = search rules in
    let y : to_z w32 (of_z w32 r) ≡ r = search rules in
    let end : c.checked_add.result ≡ Some c.in_ok-end.end = search rules in
    let k = c.in_ok-trailing.field-0 in
    let clips : c.trailing.result ≡ Some k = search rules in
    let z : to_z w32 (of_z w32 c.in_ok-end.end) ≡ c.in_ok-end.end = search rules in
    let u : to_z w32 (of_z w32 k) ≡ k = search rules in
    let all : c.checked_add-2.result ≡ Some c.in_ok-clipped.clipped = search rules in
    let v : to_z w32 (of_z w32 c.in_ok-clipped.clipped) ≡ c.in_ok-clipped.clipped = search rules in
    (simp v at c.checked_sub.ensures)
    ∙ clipped c.args.at _ _ r (sym c.whole.ensures ∙ refs) _ (sym (simp (x, y) at c.checked_add.ensures) ∙ end) k (sym c.trailing.ensures ∙ clips) _
    (sym (simp (z, u) at c.checked_add-2.ensures) ∙ all)
