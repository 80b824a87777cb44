-- `front::two_fields` meets its contract: a word is its halves.
-- Assumes nothing.
use Rattle.std.proofs.Common.{◌/◌, ◌%◌, ◌^◌, arith}
use Rattle.digests.proofs.Linear.{in_parts, low_alone}
use Rattle.digests.proofs.front.two_fields.Goals as goal

pub returns : goal.returns
returns g c =
    let x = c.args.x in
    let low = low_alone 10 g.row.BITS (x % 2 ^ 32) (omega (arith, c.if-first-second-ge1024.false)) c.mix.ensures in
    let high = low_alone 10 g.row.HIGH (x / 2 ^ 32) (omega (arith, c.if-first-second-ge1024.false)) c.mix-2.ensures in
    rw c.requires (in_parts 32 g.row.HIGH x (rw c.requires at low) high)
