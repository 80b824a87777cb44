-- `front::opening` meets its contract: its fields, one behind the other, each by its images.
-- Assumes nothing.
use Rattle.std.proofs.Common.{refl, ap, ◌∙◌, arith, lit<}
use lib.Bits.{bit_xor, xor_comm}
use Rattle.numbers.specs.Bytes.{Bytes}
use Rattle.digests.specs.Crc.{crc_bit, crc_bits}
use Rattle.digests.proofs.Images.{by_fives, descend, images, reached}
use Rattle.digests.proofs.Pieces.{part_behind}
use Rattle.digests.proofs.Powers.{power}
use Rattle.digests.proofs.front.opening.Goals as goal

pub invariant_of-of : goal.invariant_of-of
unfolding crc_bits crc_bit
invariant_of-of c = record { known = refl }

pub invariant_of-two_fields-clause-images : goal.invariant_of-two_fields-clause-images
unfolding crc_bits crc_bit descend by_fives
invariant_of-two_fields-clause-images c = images 1984 2 _ (reached 10 1920 54 (power 13 (lit< tt))) refl refl tt

pub invariant_of-two_fields-2-clause-images : goal.invariant_of-two_fields-2-clause-images
unfolding crc_bits crc_bit descend by_fives
invariant_of-two_fields-2-clause-images c = images 1952 2 _ (reached 10 1920 22 (power 13 (lit< tt))) refl refl tt

pub invariant_of-two_fields-3-clause-images : goal.invariant_of-two_fields-3-clause-images
unfolding crc_bits crc_bit descend by_fives
invariant_of-two_fields-3-clause-images c = images 1920 2 _ (reached 10 1856 54 (power 12 (lit< tt))) refl refl tt

pub invariant_of-two_fields-4-clause-images : goal.invariant_of-two_fields-4-clause-images
unfolding crc_bits crc_bit descend by_fives
invariant_of-two_fields-4-clause-images c = images 1888 2 _ (reached 10 1856 22 (power 12 (lit< tt))) refl refl tt

pub invariant_of-two_fields-5-clause-images : goal.invariant_of-two_fields-5-clause-images
unfolding crc_bits crc_bit descend by_fives
invariant_of-two_fields-5-clause-images c = images 1856 2 _ (reached 10 1792 54 (power 11 (lit< tt))) refl refl tt

pub invariant_of-two_fields-6-clause-images : goal.invariant_of-two_fields-6-clause-images
unfolding crc_bits crc_bit descend by_fives
invariant_of-two_fields-6-clause-images c = images 1824 2 _ (reached 10 1792 22 (power 11 (lit< tt))) refl refl tt

pub returns : goal.returns
returns c =
    let s = c.args.image.now in
    let bytes : Bytes s = λ k. (c.shared_slice_known-1.given k).fits in
    part_behind 0xFFFFFFFF s 0x00 24 8 1856 bytes (omega (arith, c.requires))
    (part_behind 0xFFFFFFFF s 0x00 16 8 1920 bytes (omega (arith, c.requires))
    (part_behind 0xFFFFFFFF s 0x00 8 8 1984 bytes (omega (arith, c.requires))
    (c.of.ensures ∙ ap (crc_bits 2048) (xor_comm _ 0xFFFFFFFF ∙ ap (bit_xor 0xFFFFFFFF) c.u64_at.ensures))
    (c.two_fields.ensures ∙ ap (crc_bits 1984) c.u64_at-2.ensures))
    (c.two_fields-2.ensures ∙ ap (crc_bits 1920) c.u64_at-3.ensures))
    (c.two_fields-3.ensures ∙ ap (crc_bits 1856) c.u64_at-4.ensures)
