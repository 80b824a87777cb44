-- `front::front` meets its contract: its words with zeros between them are the front as the CRC takes it.
-- Assumes nothing.
use Rattle.std.proofs.Common.{refl, ap, ◌∙◌, lit<}
use Rattle.digests.specs.Crc.{crc_bit, crc_bits}
use Rattle.digests.proofs.Header.{front_joined}
use Rattle.digests.proofs.Images.{by_fives, descend, images, reached}
use Rattle.digests.proofs.Powers.{power}
use Rattle.digests.proofs.front.front.Goals as goal

pub invariant_of-of-clause-images : goal.invariant_of-of-clause-images
unfolding crc_bits crc_bit descend by_fives
invariant_of-of-clause-images c = images 1120 1 _ (reached 5 1088 27 (power 0 (lit< tt))) refl refl tt

pub returns : goal.returns
returns c =
    front_joined c.args.image.now c.requires (λ k. (c.shared_slice_known-1.given k).fits) c.opening.ensures c.counts.ensures c.buckets.ensures (c.of.ensures ∙ ap (crc_bits 1120) (c.from.ensures ∙ c.u32_at.ensures))
