-- Signed numbers of 32 bits as ℤ: what bits mean, the range, and sums that are checked or saturate (Rust's i32).
use Rattle.std.specs.Prelude.{ℕ, ◌+◌, ◌-◌, cond, ℤ, pos, negsuc, int_lt, nat_lt, None, Option, Some}
use Rattle.std.proofs.Math.IntN.{sub_ℕ}

-- the number that 32 bits mean in two's complement: n, or n - 2^32 from 2^31 on
unfoldable pub twos32 : ℕ → ℤ
twos32 n = cond (nat_lt n 2147483648) (pos n) (sub_ℕ n 4294967296)

-- the 64 bits of a number in two's complement; negsuc n is -(n + 1)
abbrev pub twos64 : ℤ → ℕ
twos64 (pos n) = n
twos64 (negsuc n) = 18446744073709551615 - n

-- and the 32 bits
abbrev pub bits32 : ℤ → ℕ
bits32 (pos n) = n
bits32 (negsuc n) = 4294967295 - n

-- z + 2^31, for a z of an i32
unfoldable pub raised : ℤ → ℕ
raised (pos n) = n + 2147483648
raised (negsuc n) = 2147483647 - n

-- z where it is not negative, else 0
abbrev pub natural : ℤ → ℕ
natural (pos n) = n
natural (negsuc n) = 0

-- where a number lies: below the range of an i32, within it, or above it
pub data Side : Type 0 where
  Below : Side
  Within : ℤ → Side
  Above : Side

-- the range of an i32 is -2^31 to 2^31 - 1
unfoldable pub side_of : ℤ → Side
side_of z = cond (int_lt z (negsuc 2147483647)) Below (cond (int_lt (pos 2147483647) z) Above (Within z))

-- z, where an i32 holds it
abbrev pub sum_at : Side → Option ℤ
sum_at Below = None
sum_at (Within z) = Some z
sum_at Above = None

unfoldable pub checked : ℤ → Option ℤ
unfolding side_of
checked z = sum_at (side_of z)

-- z, or the nearer end of the range
abbrev pub nearest : Side → ℤ
nearest Below = negsuc 2147483647
nearest (Within z) = z
nearest Above = pos 2147483647

unfoldable pub clamp32 : ℤ → ℤ
unfolding side_of
clamp32 z = nearest (side_of z)
