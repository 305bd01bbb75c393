-- An i32 holds the reference bases, which are at most 2^31 - 1.
use borrow.Author.Rules.{rules}
use Rattle.std.specs.Prelude.{ℕ, ℤ, Some}
use Rattle.parsed_rules.specs.declared.Measured.{Measured}
use native.Mathlib.Omega.{arith}
use mathlib.Core.Path.{refl, sym, ap, ◌∙◌}
use borrow.Author.Tests.{lt-ltb}
use Rattle.signed.specs.Whole.{twos32}
use Rattle.measure_text.proofs.ending.Goals as goal

abbrev of_both : ℕ → ℤ → Measured
of_both n z = record { ops = n; refs = z }

pub returns-then-accept : goal.returns-then-accept
unfolding twos32
returns-then-accept c =
    rw (sym c.accept.ensures ∙ c.if-accept.true)
    (ap (λ (y : ℤ). Some (of_both c.args.seen.n y)) (search rules ∙ c.of_bits.ensures ∙ rw (lt-ltb c.args.seen.refs 2147483648 (omega arith)) refl))
