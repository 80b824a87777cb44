-- `front::buckets` meets its contract: its words, one behind the other, each by its images.
-- Assumes nothing.
use Rattle.std.proofs.Common.{refl, ap, ◌∙◌, arith, lit<}
use Rattle.numbers.specs.Bytes.{Bytes}
use Rattle.digests.specs.Crc.{crc_bit, crc_bits}
use Rattle.digests.proofs.Images.{by_fives, descend, images, reached}
use Rattle.digests.proofs.Pieces.{part_behind}
use Rattle.digests.proofs.Powers.{power}
use Rattle.digests.proofs.front.buckets.Goals as goal

pub invariant_of-of-clause-images : goal.invariant_of-of-clause-images
unfolding crc_bits crc_bit descend by_fives
invariant_of-of-clause-images c = images 1472 5 _ (reached 25 1408 39 (power 5 (lit< tt))) refl refl tt

pub invariant_of-of-2-clause-images : goal.invariant_of-of-2-clause-images
unfolding crc_bits crc_bit descend by_fives
invariant_of-of-2-clause-images c = images 1408 5 _ (reached 25 1344 39 (power 4 (lit< tt))) refl refl tt

pub invariant_of-of-3-clause-images : goal.invariant_of-of-3-clause-images
unfolding crc_bits crc_bit descend by_fives
invariant_of-of-3-clause-images c = images 1344 5 _ (reached 25 1280 39 (power 3 (lit< tt))) refl refl tt

pub invariant_of-of-5-clause-images : goal.invariant_of-of-5-clause-images
unfolding crc_bits crc_bit descend by_fives
invariant_of-of-5-clause-images c = images 1216 7 _ (reached 35 1152 29 (power 1 (lit< tt))) refl refl tt

pub invariant_of-of-4 : goal.invariant_of-of-4
unfolding crc_bits crc_bit
invariant_of-of-4 c = record { known = refl }

pub returns : goal.returns
returns c =
    let s = c.args.image.now in
    let bytes : Bytes s = λ k. (c.shared_slice_known-1.given k).fits in
    part_behind 0 s 0x48 32 8 1216 bytes (omega (arith, c.requires))
    (part_behind 0 s 0x48 24 8 1280 bytes (omega (arith, c.requires))
    (part_behind 0 s 0x48 16 8 1344 bytes (omega (arith, c.requires))
    (part_behind 0 s 0x48 8 8 1408 bytes (omega (arith, c.requires))
    (c.of.ensures ∙ ap (crc_bits 1472) c.u64_at.ensures)
    (c.of-2.ensures ∙ ap (crc_bits 1408) c.u64_at-2.ensures))
    (c.of-3.ensures ∙ ap (crc_bits 1344) c.u64_at-3.ensures))
    (c.of-4.ensures ∙ ap (crc_bits 1280) c.u64_at-4.ensures))
    (c.of-5.ensures ∙ ap (crc_bits 1216) c.u64_at-5.ensures)
