-- `bits::by_bits` meets its contract. The loop's invariant: the state is what the bits that are done make of x.
-- Assumes nothing.
use Rattle.std.proofs.Common.{◌≡◌}
use Rattle.digests.specs.Crc.{crc_bits}
use Rattle.digests.proofs.bits.by_bits.Given as goal

abbrev pub invariant-loop : goal.invariant-loop
invariant-loop l = l.state ≡ crc_bits l.counter l.x
