-- The CRC of bytes has 32 bits.
-- Assumes nothing.
use Prim.Native.Nat.{ℕ, suc, ◌^◌, ◌<◌}
use mathlib.Core.List.{List, [], ◌∷◌}
use native.Mathlib.Omega.{arith}
use lib.Bits.{bit_xor, xor_lt}
use lib.Dec.{lit<}
use lib.ListN.{take, replicate}
use Rattle.numbers.specs.Bytes.{Bytes, put}
use Rattle.digests.specs.Crc.{crc_bits, crc_from, crc32c, header_crc}
use Rattle.numbers.proofs.Bytes.{put_bytes, take_bytes, replicate_bytes}
use Rattle.digests.proofs.Linear.{bits_below}

from_bound : (s : List ℕ) (c : ℕ) → c < 2 ^ 32 → Bytes s → crc_from c s < 2 ^ 32
unfolding crc_from
from_bound [] c h bs = h
from_bound (b ∷ s) c h bs =
    let byte : b < 2 ^ 32 = omega (arith, bs 0) in
    from_bound s (crc_bits 8 (bit_xor c b)) (bits_below 0 8 (bit_xor c b) (xor_lt 32 c b h byte) (omega arith)) (λ i. bs (suc i))

crc_bound : (s : List ℕ) → Bytes s → crc32c s < 2 ^ 32
unfolding crc32c
crc_bound s bs = xor_lt 32 (crc_from 0xFFFFFFFF s) 0xFFFFFFFF (from_bound s 0xFFFFFFFF (lit< tt) bs) (lit< tt)

pub header_crc_bound : (image : List ℕ) → Bytes image → header_crc image < 2 ^ 32
unfolding header_crc
header_crc_bound image h =
    let first : Bytes (put (take 256 image) 0x40 (replicate 8 0)) =
    put_bytes (take 256 image) 0x40 (replicate 8 0) (take_bytes 256 image h) (replicate_bytes 8) in
    crc_bound (put (put (take 256 image) 0x40 (replicate 8 0)) 0x70 (replicate 4 0))
    (put_bytes (put (take 256 image) 0x40 (replicate 8 0)) 0x70 (replicate 4 0) first (replicate_bytes 4))
