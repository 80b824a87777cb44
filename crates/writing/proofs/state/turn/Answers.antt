-- `writing::state::turn` meets its contract.
-- Assumes nothing.
use Rattle.writing.proofs.StateCode.{turned, stayed}
use Rattle.writing.proofs.state.turn.Goals as goal

pub returns-then-from-to : goal.returns-then-from-to
returns-then-from-to c =
    turned c.args.image.now c.args.from c.args.to c.requires.1 c.if-from-to.true c.write.ensures c.seal.ensures

pub returns-else-from-to : goal.returns-else-from-to
returns-else-from-to c =
    stayed c.args.image.now c.args.from c.args.to c.requires.1 c.if-from-to.false
