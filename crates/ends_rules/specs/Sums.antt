-- Document 01, refusal 4: "a signed 32-bit sum overflows where Rust with overflow checks stops". Rust's + and - on i32, where an operand may have overflowed already.
use Rattle.std.specs.Prelude.{ℕ, ℤ, pos, ◌+ℤ◌, ◌-ℤ◌, None, Option, Some}
use Rattle.signed.specs.Whole.{checked}

-- a sum or a difference of two numbers, where both are there
unfoldable pub both : (ℤ → ℤ → ℤ) → Option ℤ → Option ℤ → Option ℤ
both f (Some a) (Some b) = checked (f a b)
both f (Some a) None = None
both f None b = None

infixl 60 ◌⊕◌
infixl 60 ◌⊖◌
abbrev pub ◌⊕◌ : Option ℤ → Option ℤ → Option ℤ
◌⊕◌ a b = both ◌+ℤ◌ a b

abbrev pub ◌⊖◌ : Option ℤ → Option ℤ → Option ℤ
◌⊖◌ a b = both ◌-ℤ◌ a b

-- lengths that come to n, summed one by one: since none is negative, a sum on the way overflows exactly where n does
abbrev pub summed : ℕ → Option ℤ
summed n = checked (pos n)
