-- `bits::bits_64` meets its contract: its numbers are images.
-- Assumes nothing.
use Rattle.std.proofs.Common.{refl}
use Rattle.digests.specs.Crc.{crc_bit, crc_bits}
use Rattle.digests.proofs.Images.{by_fives, descend, images, reached}
use Rattle.digests.proofs.bits.bits_64.Goals as goal

pub invariant_of-of_word-clause-images : goal.invariant_of-of_word-clause-images
unfolding crc_bits crc_bit descend by_fives
invariant_of-of_word-clause-images c = images 64 7 _ (reached 35 0 29 {a = 1} refl) refl refl tt

pub invariant_of-of_word-2-clause-images : goal.invariant_of-of_word-2-clause-images
unfolding crc_bits crc_bit descend by_fives
invariant_of-of_word-2-clause-images c = images 29 6 _ {v = 2} refl refl refl tt
