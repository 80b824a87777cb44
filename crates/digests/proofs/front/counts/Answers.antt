-- `front::counts` meets its contract: its words, one behind the other, each by its images.
-- Assumes nothing.
use Rattle.std.proofs.Common.{refl, ap, ◌∙◌, arith, lit<}
use Rattle.numbers.specs.Bytes.{Bytes}
use Rattle.digests.specs.Crc.{crc_bit, crc_bits}
use Rattle.digests.proofs.Images.{by_fives, descend, images, reached}
use Rattle.digests.proofs.Pieces.{part_behind}
use Rattle.digests.proofs.Powers.{power}
use Rattle.digests.proofs.front.counts.Goals as goal

pub invariant_of-of-clause-images : goal.invariant_of-of-clause-images
unfolding crc_bits crc_bit descend by_fives
invariant_of-of-clause-images c = images 1792 5 _ (reached 25 1728 39 (power 10 (lit< tt))) refl refl tt

pub invariant_of-of-2-clause-images : goal.invariant_of-of-2-clause-images
unfolding crc_bits crc_bit descend by_fives
invariant_of-of-2-clause-images c = images 1728 5 _ (reached 25 1664 39 (power 9 (lit< tt))) refl refl tt

pub invariant_of-of-3-clause-images : goal.invariant_of-of-3-clause-images
unfolding crc_bits crc_bit descend by_fives
invariant_of-of-3-clause-images c = images 1664 5 _ (reached 25 1600 39 (power 8 (lit< tt))) refl refl tt

pub invariant_of-of_word-clause-images : goal.invariant_of-of_word-clause-images
unfolding crc_bits crc_bit descend by_fives
invariant_of-of_word-clause-images c = images 1600 7 _ (reached 35 1536 29 (power 7 (lit< tt))) refl refl tt

pub invariant_of-of_word-2-clause-images : goal.invariant_of-of_word-2-clause-images
unfolding crc_bits crc_bit descend by_fives
invariant_of-of_word-2-clause-images c = images 1565 6 _ (reached 30 1472 63 (power 6 (lit< tt))) refl refl tt

pub returns : goal.returns
returns c =
    let s = c.args.image.now in
    let bytes : Bytes s = λ k. (c.shared_slice_known-1.given k).fits in
    part_behind 0 s 0x20 24 8 1600 bytes (omega (arith, c.requires))
    (part_behind 0 s 0x20 16 8 1664 bytes (omega (arith, c.requires))
    (part_behind 0 s 0x20 8 8 1728 bytes (omega (arith, c.requires))
    (c.of.ensures ∙ ap (crc_bits 1792) c.u64_at.ensures)
    (c.of-2.ensures ∙ ap (crc_bits 1728) c.u64_at-2.ensures))
    (c.of-3.ensures ∙ ap (crc_bits 1664) c.u64_at-3.ensures))
    (c.of_word.ensures ∙ ap (crc_bits 1600) c.u64_at-4.ensures)
