-- `bits::one_bit` meets its contract.
-- Assumes nothing.
use Rattle.std.proofs.Common.{refl, eq-eqb, ne_eqb}
use Rattle.digests.specs.Crc.{crc_bit}
use Rattle.digests.proofs.bits.one_bit.Goals as goal

pub returns-then-x-eq1 : goal.returns-then-x-eq1
unfolding crc_bit
returns-then-x-eq1 c = rw (eq-eqb _ 1 c.if-x-eq1.true) refl

pub returns : goal.returns
unfolding crc_bit
returns c = rw (ne_eqb _ 1 c.if-x-eq1.false) refl
