-- `crc::header_crc` meets its contract: the front and the rest are the header with both fields as zero.
-- Assumes nothing.
use Rattle.digests.proofs.Header.{header_joined}
use Rattle.digests.proofs.crc.header_crc.Goals as goal

pub returns : goal.returns
returns c =
    header_joined c.args.image.now c.requires c.front.ensures c.rest.ensures
