-- The walk decides, over the whole list.
use Rattle.std.proofs.Common.{◌≡◌, sym, ap, ◌∙◌, Some, None, Ok, Err, rules, arith, lt-ltb, le-ltb}
use Rattle.std.proofs.lemmas.Option.{MatchOption-at_some, MatchOption-at_none}
use Rattle.answers.specs.declared.Refusal.TheVariants.{TooManyOps}
use Rattle.oplist.specs.Ops.{most_ops}
use Rattle.text_rules.specs.Valid.{valid_mapped}
use Rattle.validity.specs.Validity.{validity}
use Rattle.validity.proofs.is_valid_mapped_cigar.Goals as goal

pub returns-in_err-list : goal.returns-in_err-list
unfolding validity
returns-in_err-list c =
    let none : c.new.result ≡ None = grind arith in
    let passed : c.from_residual.result ≡ Err TooManyOps = search rules in
    passed ∙ sym (simp (lt-ltb most_ops _ (MatchOption-at_none _ _ none c.new.ensures)))

pub returns : goal.returns
unfolding validity
returns c =
    let some : c.new.result ≡ Some c.in_ok-list.list = grind arith in
    let l = MatchOption-at_some _ _ _ some c.new.ensures in
    rw (le-ltb most_ops _ l.0) (ap Ok (c.valid.ensures ∙ ap valid_mapped l.1))
