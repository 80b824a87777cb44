-- `columns::of_word` meets its contract: a word is its two parts.
-- Assumes nothing.
use Rattle.std.proofs.Common.{◌/◌, ◌^◌, arith}
use Rattle.digests.proofs.Linear.{in_parts, low_alone}
use Rattle.digests.proofs.columns.of_word.Goals as goal

pub returns : goal.returns
returns g c =
    let rest = c.args.x / 2 ^ 35 in
    rw c.requires (in_parts 35 g.row.HIGH c.args.x (rw c.requires at c.mix-first.ensures) (low_alone 30 g.row.HIGH rest (omega (arith, c.ranges.x.fits)) c.mix.ensures))
