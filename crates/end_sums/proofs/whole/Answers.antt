-- An i32 holds n up to 2^31 - 1.
use Rattle.std.proofs.Common.{◌∙◌, Result, Ok, Err, ℤ, pos}
use Rattle.std.specs.Option.{SomeIff}
use Rattle.std.specs.Result.{OkIff, result_ok}
use Rattle.signed.proofs.Ranges.{checked_is}
use Rattle.end_sums.proofs.whole.Goals as goal

as_option : {E : Type 0} (r : Result ℤ E) (P : Type 0) (z : ℤ) → OkIff r P z → SomeIff (result_ok r) P z
as_option (Ok x) P z told = told
as_option (Err e) P z told = told

pub returns : goal.returns
returns c = c.ok.ensures.value ∙ checked_is (pos c.args.n) _ (as_option c.try_from.result _ _ c.try_from.ensures)
