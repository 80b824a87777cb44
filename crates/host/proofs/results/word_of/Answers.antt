-- `host::results::word_of` meets its contract.
-- Assumes nothing.
use mir.Facts.{to_z-of_z}
use mir.Syntax.{w64}
use Rattle.host.proofs.ResultLaws.{word_bits}
use Rattle.host.proofs.results.word_of.Goals as goal

pub returns : goal.returns
returns c = rw (c.cast_unsigned.ensures, to_z-of_z {w = w64} {z = c.args.x} c.ranges.x) (word_bits c.args.x)
