-- An i32 holds n up to 2^31 - 1.
use Rattle.std.proofs.Common.{◌≡◌, ℕ, ap, ◌∙◌, Result, Ok, Err, ℤ, pos, w32, SFits, inl, inr, arith}
use Rattle.std.specs.Option.{ok_or}
use Rattle.std.specs.Result.{OkIff, result_ok}
use Rattle.std.proofs.lemmas.Bool.{cases_lt}
use Rattle.answers.specs.declared.Refusal.TheVariants.{Overflow}
use Rattle.signed.proofs.Halves.{sfits32, top32}
use Rattle.length_rules.specs.Lengths.{as_int}
use Rattle.length_rules.proofs.LengthCases.{too_large, small}
use Rattle.op_sums.proofs.as_int.Goals as goal

held : {E : Type 0} (n : ℕ) (r : Result ℤ E) → OkIff r (SFits w32 (pos n)) (pos n) → ok_or (result_ok r) Overflow ≡ as_int n
held n (Ok x) told = small n (let t = top32 (pos n) told.0 in omega arith) x told.1
held n (Err e) out =
    elim (cases_lt n 2147483648) [ inl h ↦ absurd (out (sfits32 (pos n) (omega arith) (omega arith))) | inr h ↦ too_large n (omega arith) ]

pub returns : goal.returns
returns c = c.ok_or.ensures.value ∙ ap (λ o. ok_or o Overflow) c.ok.ensures.value ∙ held c.args.n c.try_from.result c.try_from.ensures
