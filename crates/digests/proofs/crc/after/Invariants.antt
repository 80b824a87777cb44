-- `crc::after` meets its contract. The loop's invariant: the bytes behind the first n words make the same of the state.
-- Assumes nothing.
use Rattle.std.proofs.Common.{◌≡◌, ◌*◌, drop}
use Rattle.digests.specs.Crc.{crc_from}
use Rattle.digests.proofs.crc.after.Given as goal

abbrev pub invariant-loop-n : goal.invariant-loop-n
invariant-loop-n l = crc_from l.c l.s ≡ crc_from l.state (drop (8 * l.n) l.s)
