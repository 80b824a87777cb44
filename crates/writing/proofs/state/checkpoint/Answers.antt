-- `writing::state::checkpoint` meets its contract.
-- Assumes nothing.
use Rattle.writing.specs.State.{checkpoint_of}
use Rattle.writing.proofs.state.checkpoint.Goals as goal

pub returns : goal.returns
unfolding checkpoint_of
returns c = c.change_state.ensures
