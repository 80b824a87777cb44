-- `writing::state::begin` meets its contract.
-- Assumes nothing.
use Rattle.writing.specs.State.{begin_of}
use Rattle.writing.proofs.state.begin.Goals as goal

pub returns : goal.returns
unfolding begin_of
returns c = c.change_state.ensures
