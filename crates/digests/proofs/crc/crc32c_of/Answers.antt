-- `crc::crc32c_of` meets its contract.
-- Assumes nothing.
use Rattle.std.proofs.Common.{ℕ, ap}
use lib.Bits.{bit_xor}
use Rattle.digests.specs.Crc.{crc32c}
use Rattle.digests.proofs.crc.crc32c_of.Goals as goal

pub returns : goal.returns
unfolding crc32c
returns c = ap (λ (x : ℕ). bit_xor x 0xFFFFFFFF) c.after.ensures
