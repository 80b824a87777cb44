-- `writing::state::put_invalidated` meets its contract.
-- Assumes nothing.
use Rattle.header.specs.Fields as F
use Rattle.header.specs.State.{INVALIDATED}
use Rattle.writing.proofs.StateCode.{wrote_last, publishes}
use Rattle.writing.proofs.state.put_invalidated.Goals as goal

pub returns : goal.returns
returns c =
    publishes c.args.image.now _ c.requires.1 c.write.ensures (wrote_last F.state INVALIDATED _ c.write-2.ensures) c.seal.ensures
