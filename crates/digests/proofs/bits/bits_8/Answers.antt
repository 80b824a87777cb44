-- `bits::bits_8` meets its contract: its numbers are images.
-- Assumes nothing.
use Rattle.std.proofs.Common.{refl}
use Rattle.digests.specs.Crc.{crc_bit, crc_bits}
use Rattle.digests.proofs.Images.{by_fives, descend, images}
use Rattle.digests.proofs.bits.bits_8.Goals as goal

pub invariant_of-mix-clause-images : goal.invariant_of-mix-clause-images
unfolding crc_bits crc_bit descend by_fives
invariant_of-mix-clause-images c = images 8 2 _ {v = 4} refl refl refl tt
