-- An i32 holds n up to 2^31 - 1, and the clamp is that from there on.
use Rattle.std.proofs.Common.{◌≡◌, ℕ, sym, ◌∙◌, Result, Ok, Err, ℤ, pos, w32, SFits, inl, inr, arith, rules, to_z, of_z}
use Rattle.std.specs.Result.{OkIff, result_unwrap_or}
use Rattle.std.proofs.lemmas.Bool.{cases_lt}
use Rattle.signed.specs.Whole.{clamp32}
use Rattle.signed.proofs.Halves.{sfits32, top32}
use Rattle.signed.proofs.Ranges.{clamp_in, clamp_above}
use Rattle.op_sums.proofs.saturated.Goals as goal

clamped : {E : Type 0} (n : ℕ) (r : Result ℤ E) → OkIff r (SFits w32 (pos n)) (pos n) → result_unwrap_or r (pos 2147483647) ≡ clamp32 (pos n)
clamped n (Ok x) told = told.1 ∙ sym (clamp_in (pos n) (omega (arith, top32 (pos n) told.0)) (omega arith))
clamped n (Err e) out =
    elim (cases_lt n 2147483648) [ inl h ↦ absurd (out (sfits32 (pos n) (omega arith) (omega arith))) | inr h ↦ sym (clamp_above (pos n) (omega arith)) ]

pub returns : goal.returns
returns c =
    let x : to_z w32 (of_z w32 c.unwrap_or.result) ≡ c.unwrap_or.result = search rules in
    x ∙ c.unwrap_or.ensures ∙ clamped c.args.n c.try_from.result c.try_from.ensures
