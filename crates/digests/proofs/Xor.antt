-- Laws of exclusive or.
-- Assumes nothing.
use Rattle.std.proofs.Common.{◌≡◌, ℕ, ◌+◌, ◌*◌, ◌/◌, ◌%◌, ◌^◌, refl, ◌∙◌, mod-lt, arith, pow_pos}
use lib.Bits.{bit_xor, xor_add_and, xor_shr, xor_comm, xor_shifted}
use Rattle.std.specs.Int.Bits.{xor_assoc}
use lib.Pow.{split}

-- the lowest digit
pub xor_digit : (a b : ℕ) → bit_xor a b % 2 ≡ (a + b) % 2
xor_digit a b = omega (arith, xor_add_and a b)

-- the other digits
pub xor_half : (a b : ℕ) → bit_xor a b / 2 ≡ bit_xor (a / 2) (b / 2)
xor_half a b = xor_shr a b 1

-- four in two pairs, paired the other way
pub xor_pairs : (a b c d : ℕ) → bit_xor (bit_xor a b) (bit_xor c d) ≡ bit_xor (bit_xor a c) (bit_xor b d)
xor_pairs a b c d = rw (xor_assoc a b (bit_xor c d), ← xor_assoc b c d, xor_comm b c, xor_assoc c b d, ← xor_assoc a c (bit_xor b d)) refl

-- a number is the exclusive or of its k lowest digits and the rest
pub xor_split : (x k : ℕ) → bit_xor (x / 2 ^ k * 2 ^ k) (x % 2 ^ k) ≡ x
xor_split x k = xor_shifted (x / 2 ^ k) k (x % 2 ^ k) (mod-lt x (pow_pos k)) ∙ split x k
