-- Document 01, module 6: "A missing number, or one above 2^31-1, counts 0. [..] The digit run belongs to the scan, which lends it for each byte."
use Rattle.std.specs.Prelude.{ℕ, ◌+◌, ◌-◌, ◌*◌, cond, ltb, leb}
use Rattle.sam.specs.Text.{is_digit}

-- what a number counts
unfoldable pub counts_as : ℕ → ℕ
counts_as n = cond (leb n 2147483647) n 0

-- the run after one more byte: one digit more; as it was where the byte is no digit. From 214748365 on, one digit more makes a number above 2^31 - 1, which counts 0 however it
-- goes on: there the run is held at 2^31. (The Rust holds its own at 2^64 - 1; neither shows in an answer.)
unfoldable pub push_of : ℕ → ℕ → ℕ
push_of x b = cond (is_digit b) (cond (ltb 214748364 x) 2147483648 (x * 10 + (b - 48))) x
