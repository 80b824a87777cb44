-- Numbers chosen by the bits of another, by which the code looks up what bits of CRC32-C do.
-- Assumes nothing.
use Rattle.std.specs.Prelude.{ℕ, ◌/◌, ◌%◌, cond, List, [], ◌∷◌, ◌==◌, bit_xor}

-- s and those numbers whose bits of x are 1, the first by the lowest bit, together by exclusive or
unfoldable pub mixed : ℕ → List ℕ → ℕ → ℕ
mixed s [] x = s
mixed s (b ∷ bs) x = mixed (cond (x % 2 == 1) (bit_xor s b) s) bs (x / 2)
