-- CRC32-C (Castagnoli), bit by bit, and the header's CRC.
-- Assumes nothing.
use Rattle.std.specs.Prelude.{ℕ, zero, suc, ◌/◌, ◌%◌, cond, List, [], ◌∷◌, take, replicate, ◌==◌, bit_xor}
use Rattle.numbers.specs.Bytes.{put}

-- one bit: shifted down, and the reflected polynomial added where the bit that falls out is 1
unfoldable pub crc_bit : ℕ → ℕ
crc_bit c = cond (c % 2 == 1) (bit_xor (c / 2) 0x82F63B78) (c / 2)

unfoldable pub crc_bits : ℕ → ℕ → ℕ
crc_bits zero c = c
crc_bits (suc n) c = crc_bits n (crc_bit c)

-- the state after the bytes of a list, each added to the low eight bits and then taken bit by bit
unfoldable pub crc_from : ℕ → List ℕ → ℕ
crc_from c [] = c
crc_from c (b ∷ bs) = crc_from (crc_bits 8 (bit_xor c b)) bs

-- all ones in, all ones out
unfoldable pub crc32c : List ℕ → ℕ
crc32c s = bit_xor (crc_from 0xFFFFFFFF s) 0xFFFFFFFF

-- "CRC32-C (Castagnoli) is taken over the header with the CRC and generation bytes as zero."
unfoldable pub header_crc : List ℕ → ℕ
header_crc image = crc32c (put (put (take 256 image) 0x40 (replicate 8 0)) 0x70 (replicate 4 0))
