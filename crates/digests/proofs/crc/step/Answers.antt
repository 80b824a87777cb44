-- `crc::step` meets its contract: eight bits of the low byte, and the rest shifted.
-- Assumes nothing.
use Rattle.digests.proofs.Pieces.{crc_byte}
use Rattle.digests.proofs.crc.step.Goals as goal

pub returns : goal.returns
returns c = crc_byte c.args.c c.args.b c.ranges.b.fits (rw (c.from.ensures, c.from-2.ensures) at c.bits_8.ensures)
