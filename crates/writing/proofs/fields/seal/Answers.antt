-- `writing::fields::seal` meets its contract.
-- Assumes nothing.
use Rattle.writing.specs.Write.{sealed}
use Rattle.writing.proofs.fields.seal.Goals as goal

pub returns : goal.returns
unfolding sealed
returns c = cc
