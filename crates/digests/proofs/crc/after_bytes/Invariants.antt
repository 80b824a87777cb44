-- `crc::after_bytes` meets its contract. The loop's invariant: the bytes that are left make the same of the state.
-- Assumes nothing.
use Rattle.std.proofs.Common.{◌≡◌, drop}
use Rattle.digests.specs.Crc.{crc_from}
use Rattle.digests.proofs.crc.after_bytes.Given as goal

abbrev pub invariant-loop-b : goal.invariant-loop-b
invariant-loop-b l = crc_from l.c l.s ≡ crc_from l.state (drop l.b-index l.s)
