-- The front of a header, as its CRC takes it.
-- Assumes nothing.
use Rattle.std.specs.Prelude.{ℕ, List, take, replicate}
use Rattle.numbers.specs.Bytes.{put}
use Rattle.digests.specs.Crc.{crc_bits, crc_from}

-- the state after the 120 bytes of the front, generation and CRC as zero, brought to the header's end by the bits of the 136 behind it
unfoldable pub front_leaves : List ℕ → ℕ
front_leaves image = crc_bits 1088 (crc_from 0xFFFFFFFF (put (put (take 0x78 image) 0x40 (replicate 8 0)) 0x70 (replicate 4 0)))
