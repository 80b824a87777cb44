-- `numbers::words::signed_of` meets its contract.
-- Assumes nothing.
use Rattle.numbers.proofs.Signed.{cast}
use Rattle.numbers.proofs.words.signed_of.Goals as goal

pub returns : goal.returns
returns c = cast c.args.x c.cast_signed.result c.ranges.x.fits c.cast_signed.ensures
