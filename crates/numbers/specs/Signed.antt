-- A word of 64 bits as a signed number.
-- Assumes nothing.
use Rattle.std.specs.Prelude.{ℕ, ◌-◌, cond, ltb, ℤ, pos, negsuc}

-- two's complement: from 2 ^ 63 on the numbers are negative, and all ones is −1
unfoldable pub signed : ℕ → ℤ
signed n = cond (ltb n 9223372036854775808) (pos n) (negsuc (18446744073709551615 - n))
