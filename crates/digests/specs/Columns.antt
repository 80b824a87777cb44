-- What bits of CRC32-C make of the single bits of a number, by which the code looks up what they make of the number.
-- Assumes nothing.
use Rattle.std.specs.Prelude.{ℕ, zero, suc, ◌+◌, ◌^◌, List, [], ◌∷◌}
use Rattle.digests.specs.Crc.{crc_bits}

-- what n bits make of each of w bits of a number, from the one at i on
unfoldable pub columns_from : ℕ → ℕ → ℕ → List ℕ
columns_from n i zero = []
columns_from n i (suc w) = crc_bits n (2 ^ i) ∷ columns_from n (suc i) w

-- of each bit of d digits of five bits, from the one at i on
unfoldable pub digits_from : ℕ → ℕ → ℕ → List (List ℕ)
digits_from n i zero = []
digits_from n i (suc d) = columns_from n i 5 ∷ digits_from n (i + 5) d

-- of its d lowest digits
abbrev pub columns : ℕ → ℕ → List (List ℕ)
columns n d = digits_from n 0 d
